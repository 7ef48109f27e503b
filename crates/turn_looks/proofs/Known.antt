-- What a look answered is told as the rules say. Assumes nothing.
use mathlib.Core.Path.{◌≡◌, ◌∙◌, ap}
use Rattle.std.specs.Prelude.{Result, Ok, Err, MatchResult, IsOkAnd}
use Rattle.answers.specs.Sights.{of_sight}
use Rattle.queue.specs.Looks.{look_of}
use Rattle.rules.specs.Asks.{Sight}
use Rattle.rules.specs.Looks.{Look, sees, seen_as}
use Rattle.answers.specs.declared.sights.Sight.{Sight as Seen}
use Rattle.queue.specs.declared.refusals.Refusal.{Refusal}

-- the answer a, whose looks m the rules tell by g, was put into the one form: of x that was seen it is a y with P x y,
-- which the rules tell by f
pub told_by : {A B : Type 0} (g : A → B) (f : B → Sight) {P : A → Seen → Type 0}
    → ((x : A) (y : Seen) → P x y → of_sight y ≡ f (g x))
    → (a : Result A Refusal) (r : Result Seen Refusal) (m : Look B)
    → MatchResult a (λ x. IsOkAnd r (P x)) (λ e. r ≡ Err e) → look_of g a ≡ m → look_of of_sight r ≡ seen_as f m
unfolding seen_as
told_by g f same (Ok x) (Ok y) m h e = ap sees (same x y h) ∙ ap (seen_as f) e
told_by g f same (Ok x) (Err z) m h e = absurd h
told_by g f same (Err x) r m h e = ap (look_of of_sight) h ∙ ap (seen_as f) e
