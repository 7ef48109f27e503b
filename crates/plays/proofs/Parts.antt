-- Parts of a replay one after the other. Assumes nothing.
use mathlib.Core.Bool.{Bool, true, false, ◌||◌}
use mathlib.Core.List.{append_assoc, append-nil}
use mathlib.Core.Path.{◌≡◌, refl}
use native.Mathlib.Omega.{arith}
use Rattle.rules.specs.WholeReplay.{Play, Part, ◌then◌, stay}

-- a part is what its five fields say
pub same-part : (a b : Part) → a.play ≡ b.play → a.used ≡ b.used → a.records ≡ b.records → a.broke ≡ b.broke
    → a.written ≡ b.written → a ≡ b
same-part a b y u n t w i = record { play = y i; used = u i; records = n i; broke = t i; written = w i }

pub or_false : (t : Bool) → t || false ≡ t
or_false true = refl
or_false false = refl

pub or_true : (t : Bool) → t || true ≡ true
or_true true = refl
or_true false = refl

or_assoc : (t u v : Bool) → (t || u) || v ≡ t || (u || v)
or_assoc true u v = refl
or_assoc false u v = refl

pub then_assoc : (a b c : Part) → (a then b) then c ≡ a then (b then c)
unfolding ◌then◌
then_assoc a b c =
    same-part _ _ refl (omega arith) (omega arith) (or_assoc a.broke b.broke c.broke)
    (append_assoc a.written b.written c.written)

pub stay_then : (y : Play) (a : Part) → stay y then a ≡ a
unfolding ◌then◌ stay
stay_then y a = same-part _ _ refl (omega arith) (omega arith) refl refl

pub then_stay : (a : Part) → a then stay a.play ≡ a
unfolding ◌then◌ stay
then_stay a =
    same-part _ _ refl (omega arith) (omega arith) (or_false a.broke) (append-nil a.written)
