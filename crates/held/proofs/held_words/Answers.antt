-- `held::held_words` meets its contract: each word has the columns of the tasks, or lies past the width. Assumes nothing.
use Rattle.std.proofs.Common.{refl, inl, inr, arith}
use Rattle.words.proofs.Columns.{four}
use Rattle.held.proofs.Columns.{words-held}
use Rattle.held.proofs.held_words.Goals as goal

pub returns-then-width-le64 : goal.returns-then-width-le64
returns-then-width-le64 c = λ count k b.
    words-held _ _ _ _ _ _ _ (omega arith) k b _ _ c.requires.4 (four _ (inl c.held_word.ensures) (inr (omega arith, refl)) (inr (omega arith, refl)) (inr (omega arith, refl)))

pub returns : goal.returns
returns c = λ count k b.
    words-held _ _ _ _ _ _ _ (omega arith) k b _ _ c.requires.4 (λ q h. inl (c.held_four.ensures q h))
