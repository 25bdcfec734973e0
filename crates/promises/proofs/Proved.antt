-- The proving set, and the cases that tell near misses apart, hold: the checker computes them from the definitions. Assumes nothing.
use mathlib.Core.Path.{◌≡◌, refl, sym, subst}
use mathlib.Core.Bool.{true, false, not}
use mathlib.Core.List.{[], ◌∷◌, ◌++◌, map}
use Prim.Native.Nat.{ℕ, ◌^◌}
use lib.Dec.{T}
use lib.ListN.{replicate}
use Rattle.table1.proofs.rows.Reads as rows
use Rattle.events.specs.declared.Event.TheVariants.{NewBoard, Submit, Clock}
use Rattle.session.specs.Recording.{most_events}
use Rattle.promises.specs.ProvingSet.{header_line}
use Rattle.text.specs.Text.{ascii, decimal_in, decimal, line_text, row_text}
use Rattle.answer_words.specs.AnswerWords.{answer_words}
use Rattle.worded.specs.Worded.{id_text, worded_text}
use Rattle.listing.specs.Listing.{header_text, listing_text, stop_text, end_text, plan_text}
use Rattle.lists.specs.Lists.{keep, some?, all?, pairwise?, head?, or_else, last_or, index_of, put_first, insert_by, sort_by, each, first_answer, range, highest, add_to, rising}
use Rattle.ways.specs.Ways.{pair, is_open, pairs_in, openings_in, after, openings_after, asked_on}
use Rattle.tasks.specs.declared.Phase.TheVariants.{Running}
use Rattle.tasks.specs.declared.Submission.{Submission}
use Rattle.tasks.specs.Numbers.{multiple, may_begin, device}
use Rattle.tasks.specs.Tasks.{meets, covers, holds, phase_at, stamped, free_slot, zeros, booked}
use Rattle.columns.specs.Columns.{join, runs, better, best_fit}
use Rattle.planners.specs.Openings.{ways, full, pair_numbers}
use Rattle.planners.specs.Planners.{free, release, on_grid, visited, clear_of_waiting, candidates, released_edges, reference, horizon, stuffing, planned}
use Rattle.slots.specs.Slots.{task_sound, slot_sound, together, sound, named, known, with_booked, aged_to, all_aged_to, without_named, begun_named}
use Rattle.lookups.specs.Lookups.{horizon_list, strip_numbers, busy_columns}
use Rattle.board.specs.declared.Board.{Board}
use Rattle.board.specs.declared.Answer.TheVariants.{Placed, Refused}
use Rattle.board.specs.Answers.{told}
use Rattle.board.specs.Calls.{or_refused, fresh_board, created, with_task, taken, answered, submitted, board_at, clocked, withdrawn, remaining, opened, opened_buffer, listed, listed_buffer, counted}
use Rattle.board.specs.Refusals.{refusal, sound_board, refused_create, refused_submit, refused_instant, refused_withdraw, refused_openings, refused_horizon}
use Rattle.events.specs.Records.{bytes_of, number_of, kind_of, body_of, record_of, whole_or15, read_from, written, written_buffer, told_read, told_written, id_of}
use Rattle.session.specs.Recording.{first_state, line_of, stop_line, outcome, story_from, story}
use Rattle.promises.specs.Cases.{task, numbers, record_numbers, after_event, play, same, same_all, passes, at, only}
use Rattle.promises.specs.Edges.{refused_list, end_of, filled_up, edge_set}
use Rattle.promises.specs.Neighbours.{middle, neighbours, lent_to, beside, beside_set}
use Rattle.promises.specs.ProvingSet.{played, with_deadline, table_with, with_clocks, first_six, seven, listing, proving_set_over, proving_set}
use Rattle.promises.specs.ProvingSet.{two_runs, waiting_ahead, telling_set, listing_events, listing_printed, recording}

-- every definition of the book, opened so that it computes, group by group
open-lists : Unit {0}
unfolding keep some? all? pairwise? head? or_else last_or index_of put_first insert_by sort_by each first_answer range highest add_to rising is_open pairs_in openings_in after openings_after asked_on
open-lists = tt

open-tasks : Unit {0}
unfolding multiple may_begin meets covers holds phase_at stamped zeros booked join runs better best_fit
open-tasks = tt

open-planners : Unit {0}
unfolding ways full free release on_grid visited clear_of_waiting candidates released_edges reference horizon stuffing planned
open-planners = tt

open-lookups : Unit {0}
unfolding task_sound slot_sound together sound named known with_booked aged_to all_aged_to without_named begun_named horizon_list strip_numbers busy_columns
open-lookups = tt

open-board : Unit {0}
unfolding told or_refused fresh_board created with_task taken answered submitted board_at clocked withdrawn remaining pair_numbers opened opened_buffer listed listed_buffer counted
open-board = tt

open-refusals : Unit {0}
unfolding refusal refused_create refused_submit refused_instant refused_withdraw refused_openings refused_horizon
open-refusals = tt

open-records : Unit {0}
unfolding bytes_of number_of kind_of body_of record_of whole_or15 read_from written written_buffer told_read told_written line_of stop_line id_of outcome story_from story
open-records = tt

open-texts : Unit {0}
unfolding decimal_in decimal line_text row_text answer_words id_text worded_text header_text listing_text stop_text end_text plan_text
open-texts = tt

open-cases : Unit {0}
unfolding numbers record_numbers after_event play same same_all passes at only
open-cases = tt

open-beside : Unit {0}
unfolding neighbours lent_to beside beside_set
open-beside = tt

open-sets : Unit {0}
unfolding open-beside refused_list end_of filled_up edge_set played with_deadline table_with with_clocks first_six seven listing proving_set_over proving_set two_runs waiting_ahead telling_set
open-sets = tt

open-listing : Unit {0}
unfolding listing_events listing_printed recording
open-listing = tt

unfoldable pub open-book : Unit {0}
unfolding open-lists open-tasks open-planners open-lookups open-board open-refusals open-records open-cases open-sets open-listing open-texts
open-book = tt

-- CASES 1 TO 9 OF DOCUMENT 01
pub proving-set : T (all? passes proving_set)
unfolding open-book
proving-set = tt

-- the same of the constant in the code: whatever `table1::rows` may return by its promise, the set over it holds
pub proving-rows : (κs : _) (a : _) (r : _) (s : _) → rows.Post κs a r s → T (all? passes (proving_set_over r))
proving-rows κs a r s e = subst (λ t. T (all? passes (proving_set_over t))) (sym e) (unfold proving_set in proving-set)

-- what the nine cases alone do not tell apart
pub telling-set : T (all? passes telling_set)
unfolding open-book
telling-set = tt

-- the edges of the number ranges, the order of the refusals, and cases 10 to 12 of document 01
pub edge-set : T (all? passes edge_set)
unfolding open-book
edge-set = tt

-- Stuffing beside a waiting task that touches the place, or shares one tick or one column with it
pub beside-set : T (all? passes beside_set)
unfolding open-book
beside-set = tt

-- document 02, Q-2: with now 5 and e 4, openings up to 10,000,009 are not refused (the edges have 10,000,010; there are too many openings here to be listed by the checker)
pub openings-lax : refused_openings (clocked (created 4 1 1).board 5).board (task 1 1 4 10000009) ≡ 0
unfolding open-book
openings-lax = refl

-- document 02, Q-3: a board lent with a task at column 2 and g 4 is not sound, with the same task at column 5 it is; so it is with g = 1 at column 2
abbrev pub lent_with : ℕ → ℕ → Board
lent_with g c = record {
  tasks = record { id = 1; e = 3; d = 9; start = 0; w = 4; h = 1; column = c; phase = Running } ∷ replicate 63 free_slot;
  now = 0;
  device = device 8 1 g;
}

pub off-grid-unsound : (sound_board (lent_with 4 2) ≡ false) × (sound_board (lent_with 4 5) ≡ true) × (sound_board (lent_with 1 2) ≡ true)
unfolding open-book
off-grid-unsound = (refl, refl, refl)

-- and it is answered 1
pub off-grid-answered : let a : Submission = record { id = 2; e = 1; d = 9; w = 4; h = 1 } in
    ((submitted (lent_with 4 2) 3 a).answer ≡ Refused 1) × ((submitted (lent_with 4 5) 3 a).answer ≡ Placed 1 0 1)
unfolding open-book
off-grid-answered = (refl, refl)

-- document 02, Q-4, "The test means what it meant": of ticks and columns that touch, and of one in common. The test of two tasks tells them apart either way round
pub neighbours-meet : (map (λ k. meets middle k.it) neighbours ≡ map (λ k. k.shares) neighbours) × (map (λ k. meets k.it middle) neighbours ≡ map (λ k. k.shares) neighbours)
unfolding open-book
neighbours-meet = (refl, refl)

-- so does soundness, where a board is lent with both
pub neighbours-sound : map (λ k. sound_board (lent_to (middle ∷ k.it ∷ []))) neighbours ≡ map (λ k. not k.shares) neighbours
unfolding open-book
neighbours-sound = refl

-- and the openings, where the one is booked and the other is asked for
pub neighbours-open :
    map (λ k. is_open (ways 1 8 0 (middle ∷ []) (task k.it.w 1 k.it.e 99)) (pair k.it.start k.it.column)) neighbours
    ≡ map (λ k. not k.shares) neighbours
unfolding open-book
neighbours-open = refl

-- THE LISTING OF DOCUMENT 01, from the bytes of its records to the bytes that `plan` prints
pub listing-printed : plan_text false (recording listing_events) ≡ record { out = listing_printed; err = [] }
unfolding open-book
listing-printed = refl

-- 15 and 16 get their line, kind as the byte read, and end the run, and standard error names the event; no byte is no line
pub cut-short-printed : plan_text false (record_of (NewBoard 4 1) ++ (3 ∷ 1 ∷ []))
    ≡ record { out = header_line ++ ascii "1 1 0 0 0 0\n2 3 15 0 0 0\n"; err = ascii "plan: event 2 (kind 3) is cut short (15): the recording is not whole\n" }
unfolding open-book
cut-short-printed = refl

pub unknown-printed : plan_text false (7 ∷ record_of (NewBoard 4 1))
    ≡ record { out = header_line ++ ascii "1 7 16 0 0 0\n"; err = ascii "plan: event 1 (kind 7) is of no known kind (16): the rest was not read\n" }
unfolding open-book
unknown-printed = refl

pub nothing-printed : plan_text false [] ≡ record { out = header_line; err = [] }
unfolding open-book
nothing-printed = refl

-- `plan --words`
pub words-printed : plan_text true (record_of (NewBoard 4 1) ++ record_of (Submit 9 (record { id = 17; e = 1; d = 9; w = 1; h = 1 })))
    ≡ record { out = ascii "event kind answer column start finish id answer\n1 1 0 0 0 0 - 0 done\n2 2 3 0 0 0 17 3 no such planner\n"; err = [] }
unfolding open-book
words-printed = refl

pub lax-printed : plan_text true (record_of (NewBoard 4 1) ++ record_of (Submit 3 (record { id = 17; e = 4; d = 10000005; w = 1; h = 1 })))
    ≡ record { out = ascii "event kind answer column start finish id answer\n1 1 0 0 0 0 - 0 done\n2 2 18 0 0 0 17 18 the laxity is over 10000000\n"; err = [] }
unfolding open-book
lax-printed = refl

-- after as many events as are left to read it stops without a line, and that many are left at the start
pub stops-silently : listing_text false (story_from 1 first_state 6 (record_of (NewBoard 4 1) ++ record_of (Clock 2))).lines ≡ ascii "7 1 0 0 0 0\n"
unfolding open-book
stops-silently = refl

pub most-events : most_events ≡ 10 ^ 9
most-events = refl
