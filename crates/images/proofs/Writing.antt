-- Image writing: the elements' bytes one behind the other, and one law for each return. Assumes nothing.
use mathlib.Core.List.{List, ◌++◌, ◌∷◌, []}
use Rattle.std.specs.Prelude.{Result, IsErrAnd}
use Rattle.queue.specs.Looks.{seen}
use Rattle.queue.proofs.Checks.{same_refusal}
use mathlib.Core.Logic.{◌≢◌}
use mathlib.Core.Path.{◌≡◌, refl, ◌∙◌, ap, sym}
use Prim.Native.Nat.{ℕ, ◌<◌, ◌≤◌, ◌+◌, ◌*◌}
use native.Mathlib.Omega.{arith}
use lib.ListN.{length, get_or, drop}
use lib.Seq.{sets, sets-eq}
use Rattle.images.proofs.Bytes.{sets_append, length_all, all_append}
use Rattle.images.specs.Answers.{told_writing}
use Rattle.queue.proofs.Numbers.{some_number}
use Rattle.queue.specs.Answers.{number_of}
use Rattle.rules.proofs.Held.{length-held}
use Rattle.rules.proofs.Refusals.{queue-stop, queue_go, no_room, some_room}
use Rattle.rules.proofs.Ring.{read_add, read_one}
use Rattle.rules.proofs.Slots.{length_list_of}
use Rattle.rules.proofs.Choices.{unless-stop}
use Rattle.rules.specs.Images.{all_bytes, four_bytes, image_of, two_bytes, version, bytes_after, on_writing, write_count, written}
use Rattle.rules.specs.Looks.{refuses, looked, sees}
use Rattle.rules.specs.Places.{place}
use Rattle.rules.specs.Records.{Rec, held}
use Rattle.rules.specs.Refusals.{on_queue}
use Rattle.rules.specs.Slots.{list_of, read}
use Rattle.rules.specs.Choices.{unless}
use Rattle.queue.specs.declared.refusals.Refusal.{Refusal}
use Rattle.queue.specs.declared.refusals.Refusal.TheVariants.{Room}

-- ---- the elements, one by one

pub put_none : (t b : List ℕ) (h : ℕ) → sets t 3 (all_bytes (list_of b h 0)) ≡ t
unfolding read all_bytes
put_none t b h = refl

pub put_more : (t b : List ℕ) (h i p : ℕ) → h < length b → i ≤ length b → p ≡ place (length b) h i
    → sets (sets t 3 (all_bytes (list_of b h i))) (3 + 4 * i) (four_bytes (get_or b p 0))
    ≡ sets t 3 (all_bytes (list_of b h (i + 1)))
unfolding all_bytes four_bytes
put_more t b h i p in_ring fits at_p =
    let l = list_of b h i in
    let last : list_of b h (i + 1) ≡ l ++ get_or b p 0 ∷ [] =
    read_add (length b) b h i 1 in_ring fits ∙ rw (read_one, at_p) in
    sets_append t 3 (3 + 4 * i) (all_bytes l) (four_bytes (get_or b p 0))
    (omega (arith, length_all l, length_list_of b h i))
    ∙ ap (sets t 3) (sym (ap all_bytes last ∙ all_append l (get_or b p 0 ∷ [])))

-- those of a queue
pub held_is : (b : List ℕ) (r : Rec) → held b r ≡ list_of b r.head r.len
unfolding held
held_is b r = refl

-- for the loop that puts them
pub ruleset puts = (put_none, put_more, held_is)

-- ---- the returns of `write_image`

-- the bytes of the whole
pub length-image : (l : List ℕ) → length (image_of l) ≡ 3 + 4 * length l
unfolding image_of two_bytes
length-image l = let e = length_all l in omega arith

-- the first three bytes and the elements' are the image; the later bytes stay
together : (t l : List ℕ) → 3 + 4 * length l ≤ length t
    → sets (sets t 0 (two_bytes (bytes_after (length l)) ++ version ∷ [])) 3 (all_bytes l)
    ≡ image_of l ++ drop (2 + bytes_after (length l)) t
unfolding image_of two_bytes
together t l fits =
    let size : 0 + length (image_of l) ≡ 2 + bytes_after (length l) = omega (arith, length-image l) in
    sets_append t 0 3 (two_bytes (bytes_after (length l)) ++ version ∷ []) (all_bytes l) refl
    ∙ sets-eq (image_of l) t 0 (omega arith) ∙ ap (λ (k : ℕ). image_of l ++ drop k t) size

module _ (b : List ℕ) (r : Rec) (t : List ℕ) where
  -- refused: no byte is written
  stopped : (n : ℕ) → n ≢ 0 → on_writing (length b) r (length t) ≡ n → (refuses n, t) ≡ told_writing b r t
  unfolding write_count written looked
  stopped n ne e = rw (
    e,
    unless-stop n (sees (2 + bytes_after r.len)) (refuses n) ne,
    unless-stop n (image_of (held b r) ++ drop (2 + bytes_after r.len) t) t ne,
  )

  -- by the tests of slots and record, at a `?`
  pub writes_first : (a : Result ℕ Refusal) (x : Refusal) → IsErrAnd a (λ y. y ≡ x)
      → number_of x ≡ on_queue (length b) r 0 → (seen a, t) ≡ told_writing b r t
  unfolding on_writing
  writes_first a x h e =
      let none = some_number x in
      rw (same_refusal a x h) (stopped (number_of x) none (queue-stop (length b) r _ (number_of x) none (sym e)))

  module _ (first : on_queue (length b) r 0 ≡ 0) where
    pub writes_full : length t < 2 + bytes_after r.len → (refuses (number_of Room), t) ≡ told_writing b r t
    unfolding on_writing number_of
    writes_full lt = stopped 4 (λ e. omega arith) (queue_go (length b) r _ first ∙ no_room (length t) _ lt)

    -- the first three bytes are put, then the elements
    pub writes : (t1 t2 : List ℕ) → 2 + bytes_after r.len ≤ length t
        → t1 ≡ sets t 0 (two_bytes (bytes_after r.len) ++ version ∷ []) → t2 ≡ sets t1 3 (all_bytes (held b r))
        → (sees (2 + bytes_after r.len), t2) ≡ told_writing b r t
    unfolding on_writing write_count written looked unless
    writes t1 t2 fits at_head at_rest =
        let none_refused : on_writing (length b) r (length t) ≡ 0 =
        queue_go (length b) r _ first ∙ some_room (length t) _ fits in
        let long = length-held b r in
        let whole = rw long at (together t (held b r) (omega (arith, long))) in
        rw (none_refused, at_rest, at_head, whole)

-- one law for each return past the tests
pub ruleset returns = (writes_full, writes)
