-- WHERE A SUMMARY STOPS: the end of its last line, and the message. Assumes nothing.
use Rattle.std.specs.Prelude.{ℕ, suc, List, [], ◌∷◌, ◌++◌}
use Rattle.text.specs.Text.{ascii, decimal}
use Rattle.session.specs.declared.Ending.{Ending}
use Rattle.session.specs.declared.Ending.TheVariants.{NotYet, AtEnd, In15, In16, AtLast, PastLast}

-- where in a file it stopped: number, file, event, kind
unfoldable pub stopped_at : List ℕ → List ℕ → ℕ → ℕ → List ℕ
stopped_at number name event kind = number ++ (name ++ (32 ∷ (decimal event ++ (32 ∷ (decimal kind ++ (10 ∷ []))))))

-- the end of the last line: "stops there or at a 15 or 16, and says so"; behind n events of a file
unfoldable pub stop_words : List ℕ → ℕ → Ending → List ℕ
stop_words name n NotYet = ascii "end\n"
stop_words name n AtEnd = ascii "end\n"
stop_words name n (In15 k) = stopped_at (ascii "15 ") name (suc n) k
stop_words name n (In16 k) = stopped_at (ascii "16 ") name (suc n) k
stop_words name n AtLast = ascii "limit\n"
stop_words name n PastLast = ascii "limit\n"

-- and the message, where it is not the end
unfoldable pub stop_message : List ℕ → ℕ → ℕ → List ℕ → List ℕ
stop_message name event kind tail =
    ascii "summary: " ++ (name ++ (ascii ": event " ++ (decimal event ++ (ascii " (kind " ++ (decimal kind ++ tail)))))

unfoldable pub stop_said : List ℕ → ℕ → Ending → List ℕ
stop_said name n NotYet = []
stop_said name n AtEnd = []
stop_said name n (In15 k) = stop_message name (suc n) k (ascii ") is cut short (15): the recording is not whole\n")
stop_said name n (In16 k) = stop_message name (suc n) k (ascii ") is of no known kind (16): the rest was not read\n")
stop_said name n AtLast = ascii "summary: stopped after 1000000000 events\n"
stop_said name n PastLast = ascii "summary: stopped after 1000000000 events\n"

-- "On a terminal, standard error shows how far it is (files, events)"
unfoldable pub progress_text : ℕ → ℕ → List ℕ
progress_text files events = ascii "summary: file " ++ (decimal files ++ (ascii ", " ++ (decimal events ++ ascii " events")))
