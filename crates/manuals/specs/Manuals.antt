-- WHAT THE PROGRAMS SAY OF THEMSELVES: `--help`, and the usage where an argument is wrong. Assumes nothing.
use Rattle.std.specs.Prelude.{ℕ, suc, Bool, cond, List, [], ◌∷◌, ◌++◌}
use Rattle.text.specs.Text.{ascii, decimal}
use Rattle.answer_words.specs.AnswerWords.{answer_texts}

-- "the answer numbers in words", from n on
unfoldable pub answer_lines : ℕ → List (List ℕ) → List ℕ
answer_lines n [] = []
answer_lines n (t ∷ ts) = ascii "  " ++ (decimal n ++ (32 ∷ (t ++ (10 ∷ answer_lines (suc n) ts))))

unfoldable pub answers_text : List ℕ
answers_text = ascii "answers:\n" ++ answer_lines 0 answer_texts

-- `plan --help`: "what it reads, what it writes, an example, the answer numbers in words"
abbrev pub plan_head : List ℕ
plan_head =
    ascii "plan [--words] [FILE]\n"
    ++ ascii "\n"
    ++ ascii "Reads event records from FILE, or from standard input, and writes a header and a\n"
    ++ ascii "line for each: event number from 1, kind, answer, column, start, finish. Kinds are\n"
    ++ ascii "1 new board, 2 submit, 3 clock, 4 withdraw, 5 new board on a grid. Column, start and\n"
    ++ ascii "finish are 0 unless a submission is answered 0. It stops at a record that is cut short\n"
    ++ ascii "or of no known kind, and after 1000000000 events; standard error then says so.\n"
    ++ ascii "\n"
    ++ ascii "  --words  adds to each line the id that the event names and the answer in words\n"
    ++ ascii "  --help   writes this\n"
    ++ ascii "\n"
    ++ ascii "example: ./run record tests/listing/listing.txt | ./run plan --words\n"
    ++ ascii "\n"

unfoldable pub plan_help : List ℕ
plan_help = plan_head ++ answers_text

-- "a stray argument is refused with the usage"
unfoldable pub plan_usage : List ℕ
plan_usage = ascii "usage: plan [--words] [FILE]; plan --help says more\n"

abbrev pub plan_manual : Bool → List ℕ
plan_manual help = cond help plan_help plan_usage

-- `record --help`: "what it reads, what it writes, an example, the answer numbers in words"
abbrev pub record_head : List ℕ
record_head =
    ascii "record [FILE]\n"
    ++ ascii "\n"
    ++ ascii "Reads lines of text from FILE, or from standard input, and writes an event record\n"
    ++ ascii "for each:\n"
    ++ ascii "\n"
    ++ ascii "  board W H [G]                 a new board of W columns and H rows, on a grid of G columns (1)\n"
    ++ ascii "  submit PLANNER ID W H E D     a task of W columns, H rows, E ticks, deadline D\n"
    ++ ascii "  clock T                       the clock goes to T\n"
    ++ ascii "  withdraw ID                   a waiting task is taken back\n"
    ++ ascii "\n"
    ++ ascii "PLANNER is reference, horizon, stuffing, full, or a number from 0 to 255. Words are\n"
    ++ ascii "parted by spaces or tabs; a # begins a comment; empty lines are allowed. A wrong line\n"
    ++ ascii "ends it: standard error says which word was expected, and a byte of no kind (0) ends\n"
    ++ ascii "the records, so that no reader takes them for whole.\n"
    ++ ascii "\n"
    ++ ascii "  --help   writes this\n"
    ++ ascii "\n"
    ++ ascii "example: printf 'board 4 1\\nsubmit full 1 2 1 2 9\\n' | ./run record | ./run plan\n"
    ++ ascii "\n"

unfoldable pub record_help : List ℕ
record_help = record_head ++ answers_text

-- "a stray argument is refused with the usage"
unfoldable pub record_usage : List ℕ
record_usage = ascii "usage: record [FILE]; record --help says more\n"

abbrev pub record_manual : Bool → List ℕ
record_manual help = cond help record_help record_usage

-- `ask --help`: "what it reads, what it writes, an example, the answer numbers in words"
abbrev pub ask_head : List ℕ
ask_head =
    ascii "ask [--from FILE] QUESTION\n"
    ++ ascii "\n"
    ++ ascii "Reads event records from FILE, or from standard input, and answers a question about\n"
    ++ ascii "the board as it stands then. The first line is `answer N`; rows follow only if N is 0.\n"
    ++ ascii "\n"
    ++ ascii "  horizon                                     rows: first last release\n"
    ++ ascii "  busy T                                      a row: the columns held at T\n"
    ++ ascii "  openings W H E D [START COLUMN [MOST]]      rows: start column, after the pair\n"
    ++ ascii "                                              (0 0), at most MOST (1000); then more or end\n"
    ++ ascii "  board                                       a row W H now, and G where the grid is not 1;\n"
    ++ ascii "                                              then a row for each live task:\n"
    ++ ascii "                                              slot id w h e d column start finish phase\n"
    ++ ascii "  stamp T                                     as board, the phases as they are at T\n"
    ++ ascii "\n"
    ++ ascii "  --help   writes this\n"
    ++ ascii "\n"
    ++ ascii "example: ./run record tests/listing/listing.txt | ./run ask openings 1 1 2 9\n"
    ++ ascii "\n"

unfoldable pub ask_help : List ℕ
ask_help = ask_head ++ answers_text

-- "a stray argument is refused with the usage"
unfoldable pub ask_usage : List ℕ
ask_usage = ascii "usage: ask [--from FILE] horizon | busy T | openings W H E D [START COLUMN [MOST]] | board | stamp T; ask --help says more\n"

abbrev pub ask_manual : Bool → List ℕ
ask_manual help = cond help ask_help ask_usage

-- `summary --help`: "what it reads, what it writes, an example, the answer numbers in words"
abbrev pub summary_head : List ℕ
summary_head =
    ascii "summary [--add] [FILE ..]\n"
    ++ ascii "\n"
    ++ ascii "Reads event records, each FILE a recording of its own, or one from standard input, and\n"
    ++ ascii "writes for each planner and laxity class how many tasks were submitted, taken, rejected\n"
    ++ ascii "(10) and refused (9, 18), the ticks waited (start less arrival) of those taken, and taken\n"
    ++ ascii "of submitted. Laxity is d - e - arrival: A is 1 to 50, B 51 to 100, C 101 to 200, Other\n"
    ++ ascii "the rest. Submissions refused otherwise are in one line without class. The last line\n"
    ++ ascii "has the events answered and the files read, and where it stopped: end, limit (after\n"
    ++ ascii "1000000000 events), or 15 or 16 with the file, the event's number and the kind byte.\n"
    ++ ascii "\n"
    ++ ascii "  --add    reads summaries that end in `stop end`, one or more in each FILE or from\n"
    ++ ascii "           standard input, and writes their sum\n"
    ++ ascii "  --help   writes this\n"
    ++ ascii "\n"
    ++ ascii "example: ./run record tests/summary/table1.txt | ./run summary\n"
    ++ ascii "\n"

unfoldable pub summary_help : List ℕ
summary_help = summary_head ++ answers_text

-- "a stray argument is refused with the usage"
unfoldable pub summary_usage : List ℕ
summary_usage = ascii "usage: summary [--add] [FILE ..]; summary --help says more\n"

abbrev pub summary_manual : Bool → List ℕ
summary_manual help = cond help summary_help summary_usage
