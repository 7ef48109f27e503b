-- Words and lines: bytes put one behind the other are the line. Assumes nothing.
use mathlib.Core.List.{List, [], ◌∷◌, ◌++◌, append_assoc, append-nil}
use mathlib.Core.Logic.{◌⊎◌, inl, inr}
use mathlib.Core.Option.{Option}
use mathlib.Core.Path.{◌≡◌, refl, sym, ◌∙◌, ap}
use Prim.Native.Nat.{ℕ}
use Rattle.lines.proofs.Puts.{puts-append, puts_as, puts_none}
use Rattle.journals.specs.Records.{entry_for}
use Rattle.lines.specs.Puts.{Puts, four_numbers}
use Rattle.rules.specs.Journals.{Entry}
use Rattle.rules.specs.Outcome.{Answer}
use Rattle.rules.specs.Records.{Rec}
use Rattle.rules.specs.Replays.{space, newline, decimal, spaced, line_of, number_or_none, handed_word, answer_line, broken_line, rec_or}
use Rattle.journals.specs.declared.kinds.Operation.{Operation}
use Rattle.journals.specs.declared.kinds.Operation.TheVariants.{PushBack, PushFront, PopFront, PopBack, Drain, Truncate, TruncateFront, Insert, Remove}

spaced-append : (u v : List (List ℕ)) → spaced (u ++ v) ≡ spaced u ++ spaced v
unfolding spaced
spaced-append [] v = refl
spaced-append (w ∷ u) v = ap (λ (l : List ℕ). space ∷ w ++ l) (spaced-append u v)
    ∙ ap (λ (l : List ℕ). space ∷ l) (sym (append_assoc w (spaced u) (spaced v)))

spaced_one : (w : List ℕ) → space ∷ w ≡ spaced (w ∷ [])
unfolding spaced
spaced_one w = ap (λ (l : List ℕ). space ∷ l) (sym (append-nil w))

-- a first word, others, others again, and a newline are a line
whole_line : (w : List ℕ) (u v : List (List ℕ)) → ((w ++ spaced u) ++ spaced v) ++ newline ∷ [] ≡ line_of w (u ++ v)
unfolding line_of
whole_line w u v =
    append_assoc (w ++ spaced u) (spaced v) (newline ∷ []) ∙ append_assoc w (spaced u) (spaced v ++ newline ∷ [])
    ∙ ap (λ (l : List ℕ). w ++ l) (sym (append_assoc (spaced u) (spaced v) (newline ∷ []))
    ∙ ap (λ (l : List ℕ). l ++ newline ∷ []) (sym (spaced-append u v)))

-- ---- what a line says of an operation

-- the operations whose line says what was handed over
abbrev IsSaying : Operation → Type 0
IsSaying o = (o ≡ PopFront) ⊎ ((o ≡ PopBack) ⊎ ((i : ℕ) × (o ≡ Remove i)))

word : (o : Operation) (h : Option ℕ) → IsSaying o → number_or_none h ∷ [] ≡ handed_word (entry_for o) h
unfolding handed_word
word o h (inl e) = rw e refl
word o h (inr (inl e)) = rw e refl
word o h (inr (inr k)) = rw k.1 refl

no_word : (o : Operation) (h : Option ℕ) → (IsSaying o → ⊥) → [] ≡ handed_word (entry_for o) h
unfolding handed_word
no_word PopFront h k = absurd (k (inl refl))
no_word PopBack h k = absurd (k (inr (inl refl)))
no_word (Remove i) h k = absurd (k (inr (inr (i, refl))))
no_word (PushBack v) h k = refl
no_word (PushFront v) h k = refl
no_word (Drain i j) h k = refl
no_word (Truncate n) h k = refl
no_word (TruncateFront n) h k = refl
no_word (Insert i v) h k = refl

module _ (t : List ℕ) (p : ℕ) (o : Operation) (h : Option ℕ) where
  pub says : (t' : List ℕ) (q : ℕ) → IsSaying o → Puts t t' p q (space ∷ number_or_none h)
      → Puts t t' p q (spaced (handed_word (entry_for o) h))
  says t' q k a = puts_as t p t' q _ _ (spaced_one (number_or_none h) ∙ ap spaced (word o h k)) a

  pub says_nothing : (IsSaying o → ⊥) → Puts t t p p (spaced (handed_word (entry_for o) h))
  unfolding spaced
  says_nothing k = puts_as t p t p [] _ (ap spaced (no_word o h k)) (puts_none t p)

-- ---- the numbers, and the lines

module _ (t t1 t2 t3 t4 : List ℕ) (p a b c q : ℕ) where
  pub puts-numbers : (n m h : ℕ) (r : Rec) → h ≡ r.head → Puts t t1 p a (decimal n)
      → Puts t1 t2 a b (space ∷ decimal m) → Puts t2 t3 b c (space ∷ decimal h)
      → Puts t3 t4 c q (space ∷ decimal r.len) → Puts t t4 p q (four_numbers n m r)
  unfolding four_numbers
  puts-numbers n m h r at-h w x y z =
      let xy = puts-append t1 a t2 t3 b c _ _ x (puts_as t2 b t3 c _ _ (ap (λ (k : ℕ). space ∷ decimal k) at-h) y) in
      let xyz = puts-append t1 a t3 t4 c q _ _ xy z in
      puts_as t p t4 q _ _ (ap (λ (l : List ℕ). decimal n ++ l)
      (three (decimal m) (decimal r.head) (decimal r.len))) (puts-append t p t1 t4 a q _ _ w xyz)
    where
      three : (u v w : List ℕ) → ((space ∷ u) ++ (space ∷ v)) ++ (space ∷ w) ≡ spaced (u ∷ v ∷ w ∷ [])
      three u v w =
          (λ i. (spaced_one u i ++ spaced_one v i) ++ spaced_one w i)
          ∙ ap (λ (l : List ℕ). l ++ spaced (w ∷ [])) (sym (spaced-append (u ∷ []) (v ∷ [])))
          ∙ sym (spaced-append (u ∷ v ∷ []) (w ∷ []))

module _ (t t1 t2 t3 : List ℕ) (p a b q : ℕ) where
  pub puts-answer : (r : Rec) (e : Entry) (x : Answer) (r' : Rec) → r' ≡ rec_or r x.state
      → Puts t t1 p a (four_numbers x.refused x.moved r')
      → Puts t1 t2 a b (spaced (handed_word e x.handed)) → Puts t2 t3 b q (newline ∷ [])
      → Puts t t3 p q (answer_line r e x)
  unfolding answer_line four_numbers
  puts-answer r e x r' h w y z =
      let k = rec_or r x.state in
      puts_as t p t3 q _ _
      (rw h (whole_line (decimal x.refused) (decimal x.moved ∷ decimal k.head ∷ decimal k.len ∷ [])
      (handed_word e x.handed)))
      (puts-append t p t2 t3 b q _ _ (puts-append t p t1 t2 a b _ _ w y) z)

pub puts-broken : (t t1 t2 : List ℕ) (p a q : ℕ) (r : Rec) → Puts t t1 p a (four_numbers 5 0 r)
    → Puts t1 t2 a q (newline ∷ []) → Puts t t2 p q (broken_line r)
unfolding broken_line four_numbers line_of
puts-broken t t1 t2 p a q r w z =
    puts_as t p t2 q _ _ (append_assoc (decimal 5) _ (newline ∷ [])) (puts-append t p t1 t2 a q _ _ w z)
