-- Whether a text was refused. Assumes nothing.
use mathlib.Core.Path.{◌≡◌, refl}
use mathlib.Core.Bool.{true, false}
use Rattle.std.proofs.Common.{Option, None, Some}
use Rattle.std.specs.Option.{is_some, is_none}
use Rattle.adding.specs.declared.Fault.{Fault}

-- a text that was refused was not taken
pub faulty : {A : Type 0} {f : Fault} → ◌≡◌ {A = Option Fault} (Some f) None → A
faulty {A} {f} e = absurd cc

pub faulty-some : (o : Option Fault) → is_some o ≡ true → o ≡ None → ⊥
faulty-some None h e = cc
faulty-some (Some f) h e = faulty e

pub faultless-some : (o : Option Fault) → is_some o ≡ false → o ≡ None
faultless-some None h = refl
faultless-some (Some f) h = absurd cc

pub faultless : (o : Option Fault) → is_none o ≡ true → o ≡ None
faultless None h = refl
faultless (Some f) h = absurd cc

pub not_faultless : (o : Option Fault) → is_none o ≡ false → o ≡ None → ⊥
not_faultless None h e = cc
not_faultless (Some f) h e = faulty e
