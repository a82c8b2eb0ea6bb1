-- Lists: what stands before what, and what stands in one piece.
use Rattle.std.specs.Prelude.{◌≡◌, refl, ◌⊎◌, ◌≢◌, Bool, false, ℕ}
use Rattle.std.proofs.Math.Path.{sym, ap}
use Rattle.std.proofs.Common.{◌∙◌, inl, inr, ⊎_elim, arith}
use mathlib.Core.List.{List, [], ◌∷◌, ◌++◌, Memᴰ}
use mathlib.Core.List.{append_assoc}
use Rattle.volume.specs.Lists.{joined}
use Rattle.volume.specs.Listing.{Line, shown, deeper}
use Rattle.volume_laws.specs.Lists.{mem_joined}
use Rattle.volume_laws.specs.Once.{Nodup}
use Rattle.volume_laws.specs.Sort.{Sorted}
use Rattle.volume_laws.specs.Listing.{ids_shown, line_ids}
use Rattle.tree_told.specs.Words.{StandsBefore}

-- m stands in l in one piece
pub record Inside {A : Type 0} (m l : List A) : Type 0 where
  pub front : List A
  pub behind : List A
  pub split : l ≡ front ++ (m ++ behind)

-- a stands before b
pub data Precedes {A : Type 0} (a b : A) : List A → Type 0 where
  here : {x : A} {l : List A} → x ≡ a → Memᴰ b l → Precedes a b (x ∷ l)
  later : {x : A} {l : List A} → Precedes a b l → Precedes a b (x ∷ l)

module _ {A : Type 0} where
  pub inside_trans : {k m l : List A} → Inside k m → Inside m l → Inside k l
  inside_trans {k} {m} {l} a b = record {
    front = b.front ++ a.front;
    behind = a.behind ++ b.behind;
    split =
        b.split ∙ ap (λ n. b.front ++ (n ++ b.behind)) a.split
        ∙ ap (λ n. b.front ++ n) (append_assoc a.front (k ++ a.behind) b.behind
        ∙ ap (λ n. a.front ++ n) (append_assoc k a.behind b.behind))
        ∙ sym (append_assoc b.front a.front (k ++ (a.behind ++ b.behind)));
  }

  pub inside_mem : {m l : List A} → Inside m l → {a : A} → Memᴰ a m → Memᴰ a l
  inside_mem i n = rw i.split (mathlib.Core.List.Memᴰ.append_right i.front (mathlib.Core.List.Memᴰ.append_left i.behind n))

  precedes_left : {a b : A} (l m : List A) → Precedes a b l → Precedes a b (l ++ m)
  precedes_left {a = a} {b = b} [] m n = elim n [ ]
  precedes_left (x ∷ l) m (here e k) = here e (mathlib.Core.List.Memᴰ.append_left m k)
  precedes_left (x ∷ l) m (later p) = later (precedes_left l m p)

  precedes_right : {a b : A} (l m : List A) → Precedes a b m → Precedes a b (l ++ m)
  precedes_right [] m p = p
  precedes_right (x ∷ l) m p = later (precedes_right l m p)

  precedes_across : {a b : A} (l m : List A) → Memᴰ a l → Memᴰ b m → Precedes a b (l ++ m)
  precedes_across {a = a} {b = b} [] m n' n = elim n' [ ]
  precedes_across (x ∷ l) m (mathlib.Core.List.Memᴰ.head e) n = here (sym e) (mathlib.Core.List.Memᴰ.append_right l n)
  precedes_across (x ∷ l) m (mathlib.Core.List.Memᴰ.tail k) n = later (precedes_across l m k n)

  pub precedes_inside : {a b : A} {m l : List A} → Inside m l → Precedes a b m → Precedes a b l
  precedes_inside {a} {b} {m} i p = rw i.split (precedes_right i.front (m ++ i.behind) (precedes_left m i.behind p))

  precedes_second : {a b : A} (l : List A) → Precedes a b l → Memᴰ b l
  precedes_second {a = a} {b = b} [] m = elim m [ ]
  precedes_second (x ∷ l) (here e m) = mathlib.Core.List.Memᴰ.tail m
  precedes_second (x ∷ l) (later p) = mathlib.Core.List.Memᴰ.tail (precedes_second l p)

  -- of two members one stands before the other
  pub precedes_either : {a b : A} (l : List A) → a ≢ b → Memᴰ a l → Memᴰ b l → Precedes a b l ⊎ Precedes b a l
  precedes_either {a = a} {b = b} [] n m _ = elim m [ ]
  precedes_either (x ∷ l) n (mathlib.Core.List.Memᴰ.head p) (mathlib.Core.List.Memᴰ.head q) = absurd (n (p ∙ sym q))
  precedes_either (x ∷ l) n (mathlib.Core.List.Memᴰ.head p) (mathlib.Core.List.Memᴰ.tail k) = inl (here (sym p) k)
  precedes_either (x ∷ l) n (mathlib.Core.List.Memᴰ.tail k) (mathlib.Core.List.Memᴰ.head q) = inr (here (sym q) k)
  precedes_either (x ∷ l) n (mathlib.Core.List.Memᴰ.tail k) (mathlib.Core.List.Memᴰ.tail i) = ⊎_elim (λ p. inl (later p)) (λ p. inr (later p)) (precedes_either l n k i)

  -- in a sorted list nothing stands before what comes before it
  pub precedes_sorted : (before : A → A → Bool) {a b : A} (l : List A) → Sorted before l → Precedes a b l → before b a ≡ false
  precedes_sorted before {a = a} {b = b} [] h m = elim m [ ]
  precedes_sorted before {a} {b} (x ∷ l) h (here e m) = rw (← e) (h.0 b m)
  precedes_sorted before (x ∷ l) h (later p) = precedes_sorted before l h.1 p

-- what members give stands in their order, each in one piece
module _ {A B : Type 0} (f : A → List B) where
  pub inside_joined : (l : List A) {a : A} → Memᴰ a l → Inside (f a) (joined f l)
  unfolding joined
  inside_joined [] {a = a} m = elim m [ ]
  inside_joined (x ∷ l) {a} (mathlib.Core.List.Memᴰ.head e) = record { front = []; behind = joined f l; split = rw e }
  inside_joined (x ∷ l) {a} (mathlib.Core.List.Memᴰ.tail m) =
      let i = inside_joined l m in
      record {
        front = f x ++ i.front;
        behind = i.behind;
        split = ap (λ n. f x ++ n) i.split ∙ sym (append_assoc (f x) i.front (f a ++ i.behind));
      }

  pub precedes_joined : (l : List A) {a b : A} {x y : B} → Precedes a b l → Memᴰ x (f a) → Memᴰ y (f b) → Precedes x y (joined f l)
  unfolding joined
  precedes_joined [] {a = a} {b = b} {x = x} {y = y} n' m n = elim n' [ ]
  precedes_joined (c ∷ l) {a} {b} {x} (here e i) m n =
      let k : Memᴰ x (f c) = rw e m in
      precedes_across (f c) (joined f l) k (mem_joined f l i n)
  precedes_joined (c ∷ l) (later p) m n = precedes_right (f c) (joined f l) (precedes_joined l p m n)

-- in a list where each stands once not both ways
pub precedes_once : {i j : ℕ} (l : List ℕ) → Nodup l → Precedes i j l → Precedes j i l → ⊥
precedes_once {i = i} {j = j} [] h m _ = elim m [ ]
precedes_once (x ∷ l) h (here p m) (here q n) = h.0 (mathlib.Core.List.Memᴰ.cast q m)
precedes_once (x ∷ l) h (here p m) (later q) = h.0 (mathlib.Core.List.Memᴰ.cast p (precedes_second l q))
precedes_once (x ∷ l) h (later p) (here q n) = h.0 (mathlib.Core.List.Memᴰ.cast q (precedes_second l p))
precedes_once (x ∷ l) h (later p) (later q) = precedes_once l h.1 p q

-- lines, and the inodes that they show
pub precedes_ids : {d e i j : ℕ} (l : List Line) → Precedes (shown d i) (shown e j) l → Precedes i j (ids_shown l)
unfolding ids_shown
precedes_ids {d = d} {e = e} {i = i} {j = j} [] m = elim m [ ]
precedes_ids {i} (shown c k ∷ l) (here p m) = let z : k ≡ i = cc in here z (line_ids l m)
precedes_ids (shown c k ∷ l) (later p) = later (precedes_ids l p)
precedes_ids (deeper ∷ l) (here p m) = let z : ◌≡◌ {A = ℕ} 0 1 = cc in absurd (omega arith)
precedes_ids (deeper ∷ l) (later p) = precedes_ids l p

-- in the words
mem_split : {b : Line} (l : List Line) → Memᴰ b l → (q : List Line) × (s : List Line) × (l ≡ q ++ (b ∷ s))
mem_split {b = b} [] m = elim m [ ]
mem_split (x ∷ l) (mathlib.Core.List.Memᴰ.head e) = ([], l, rw e)
mem_split (x ∷ l) (mathlib.Core.List.Memᴰ.tail m) = let r = mem_split l m in (x ∷ r.0, r.1, ap (λ n. x ∷ n) r.2)

pub stands : {a b : Line} (l : List Line) → Precedes a b l → StandsBefore l a b
stands {a = a} {b = b} [] m = elim m [ ]
stands (x ∷ l) (here e m) =
    let r = mem_split l m in
    record { front = []; between = r.0; behind = r.1; split = λ i. e i ∷ r.2 i }
stands (x ∷ l) (later p) =
    let r = stands l p in
    record { front = x ∷ r.front; between = r.between; behind = r.behind; split = ap (λ n. x ∷ n) r.split }

pub stands_precedes : {a b : Line} (l : List Line) → StandsBefore l a b → Precedes a b l
stands_precedes {a} {b} l s =
    rw s.split (precedes_right s.front _ (here refl (mathlib.Core.List.Memᴰ.append_right s.between (mathlib.Core.List.Memᴰ.head refl))))
