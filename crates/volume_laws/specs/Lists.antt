-- Filtered lists and their members.
use Rattle.std.proofs.Math.Path.{◌≡◌, refl}
use Rattle.std.proofs.Common.{sym, ◌∙◌, eqb→eq}
use Rattle.std.proofs.Math.Logic.{⊎_elim}
use Rattle.std.specs.Prelude.{Bool, ◌&&◌, get_or, eqb}
use Rattle.std.proofs.Math.Bool.{true, false, cond, and_comm}
use mathlib.Core.List.Memᴰ
use mathlib.Core.List.{List, [], ◌∷◌, ◌++◌, map, append_assoc, Memᴰ}
use Prim.Native.Nat.{ℕ, zero, suc, ◌≤◌, ◌<◌}
use native.Mathlib.Omega.{arith}
use Rattle.std.proofs.Math.ListN.{length}
use Rattle.std.proofs.Math.Dec.{T, eqb_refl}
use Rattle.volume.specs.Lists.{keep, all, same, joined}
use Rattle.volume_laws.specs.Tests.{T→true, T_and, and_T}

-- `same` is equality
pub same_refl : (xs : List ℕ) → T (same xs xs)
unfolding same
same_refl [] = tt
same_refl (x ∷ xs) = T_and (eqb x x) (same xs xs) (eqb_refl x) (same_refl xs)

pub same_eq : (xs ys : List ℕ) → T (same xs ys) → xs ≡ ys
unfolding same
same_eq [] [] t = refl
same_eq [] (y ∷ ys) t = absurd t
same_eq (x ∷ xs) [] t = absurd t
same_eq (x ∷ xs) (y ∷ ys) t = let p = and_T (eqb x y) (same xs ys) t in λ i. eqb→eq x y p.0 i ∷ same_eq xs ys p.1 i

-- a is the first member of l that passes a test: those before it fail
pub record FirstPassing {A : Type 0} (f : A → Bool) (l : List A) (a : A) : Type 0 where
  pub before : List A
  pub behind : List A
  pub split : l ≡ before ++ (a ∷ behind)
  pub passes : f a ≡ true
  pub fail : (b : A) → Memᴰ b before → f b ≡ false

module _ {A : Type 0} where
  -- a filter turns only on what its test says of the members
  pub keep_cong : (f g : A → Bool) (l : List A) → ((a : A) → Memᴰ a l → f a ≡ g a) → keep f l ≡ keep g l
  unfolding keep
  keep_cong f g [] h = refl
  keep_cong f g (a ∷ l) h = rw (h a (Memᴰ.head refl), keep_cong f g l (λ b m. h b (Memᴰ.tail m)))

  -- a filter after a filter is one filter with both tests
  pub keep_keep : (f g : A → Bool) (l : List A) → keep f (keep g l) ≡ keep (λ a. g a && f a) l
  unfolding keep
  keep_keep f g [] = refl
  keep_keep f g (a ∷ l) = go (g a) (f a) (keep_keep f g l)
    where
      go : (b c : Bool) → keep f (keep g l) ≡ keep (λ a. g a && f a) l
          → keep f (cond b (a ∷ keep g l) (keep g l)) ≡ cond (b && f a) (a ∷ keep (λ a. g a && f a) l) (keep (λ a. g a && f a) l)
      go true c ih = rw ih
      go false c ih = ih

  pub keep_comm : (f g : A → Bool) (l : List A) → keep f (keep g l) ≡ keep g (keep f l)
  keep_comm f g l = keep_keep f g l ∙ keep_cong _ _ l (λ a m. and_comm (g a) (f a)) ∙ sym (keep_keep g f l)

  pub keep_append : (f : A → Bool) (l m : List A) → keep f (l ++ m) ≡ keep f l ++ keep f m
  unfolding keep
  keep_append f [] m = refl
  keep_append f (a ∷ l) m = go (f a) (keep_append f l m)
    where
      go : (b : Bool) → keep f (l ++ m) ≡ keep f l ++ keep f m
          → cond b (a ∷ keep f (l ++ m)) (keep f (l ++ m)) ≡ cond b (a ∷ keep f l) (keep f l) ++ keep f m
      go true ih = λ i. a ∷ ih i
      go false ih = ih

  -- members of a filtered list
  pub keep_mem : (f : A → Bool) (l : List A) {a : A} → Memᴰ a (keep f l) → Memᴰ a l × T (f a)
  unfolding keep
  keep_mem f [] m = absurd (Memᴰ.not-nil m)
  keep_mem f (b ∷ l) {a} m = go (f b) refl m (λ n. keep_mem f l n)
    where
      under : Memᴰ a l × T (f a) → Memᴰ a (b ∷ l) × T (f a)
      under p = (Memᴰ.tail p.0, p.1)

      go : (x : Bool) → f b ≡ x → Memᴰ a (cond x (b ∷ keep f l) (keep f l)) → (Memᴰ a (keep f l) → Memᴰ a l × T (f a))
          → Memᴰ a (b ∷ l) × T (f a)
      go true e (Memᴰ.head q) ih = (Memᴰ.head q, rw (q, e) tt)
      go true e (Memᴰ.tail n) ih = under (ih n)
      go false e n ih = under (ih n)

  pub mem_keep : (f : A → Bool) (l : List A) {a : A} → Memᴰ a l → T (f a) → Memᴰ a (keep f l)
  unfolding keep
  mem_keep f [] {a = a} m t = elim m [ ]
  mem_keep f (b ∷ l) (Memᴰ.head e) t = rw (T→true {b = f b} (rw e at t)) (Memᴰ.head e)
  mem_keep f (b ∷ l) {a} (Memᴰ.tail m) t = go (f b) (mem_keep f l m t)
    where
      go : (x : Bool) → Memᴰ a (keep f l) → Memᴰ a (cond x (b ∷ keep f l) (keep f l))
      go true n = Memᴰ.tail n
      go false n = n

  pub keep_none : (f : A → Bool) (l : List A) → ((a : A) → Memᴰ a l → f a ≡ false) → keep f l ≡ []
  unfolding keep
  keep_none f [] h = refl
  keep_none f (b ∷ l) h = rw (h b (Memᴰ.head refl), keep_none f l (λ a m. h a (Memᴰ.tail m)))

  -- what stands at a place is a member
  pub get_or_mem : (l : List A) (k : ℕ) (d : A) → k < length l → Memᴰ (get_or l k d) l
  get_or_mem [] k d h = absurd (omega arith)
  get_or_mem (a ∷ l) zero d h = Memᴰ.head refl
  get_or_mem (a ∷ l) (suc k) d h = Memᴰ.tail (get_or_mem l k d (omega arith))

  -- a member stands at some place
  pub mem_place : (l : List A) (d : A) {a : A} → Memᴰ a l → (k : ℕ) × (k < length l) × (get_or l k d ≡ a)
  mem_place [] d m = absurd (Memᴰ.not-nil m)
  mem_place (b ∷ l) d (Memᴰ.head e) = (0, omega arith, sym e)
  mem_place (b ∷ l) d (Memᴰ.tail m) = let r = mem_place l d m in (suc r.0, omega (arith, r.1), r.2)

  -- what a filter leaves starts with the first that passes
  pub keep_first : (f : A → Bool) (l : List A) {a : A} {k : List A} → keep f l ≡ a ∷ k → FirstPassing f l a
  unfolding keep
  keep_first f [] q = let z : ◌≡◌ {A = ℕ} 0 1 = cc in absurd (omega arith)
  keep_first f (b ∷ l) {a} {k} q = go (f b) refl q (keep_first f l)
    where
      go : (x : Bool) → f b ≡ x → cond x (b ∷ keep f l) (keep f l) ≡ a ∷ k → (keep f l ≡ a ∷ k → FirstPassing f l a) → FirstPassing f (b ∷ l) a
      go true e q ih = let z : b ≡ a = cc in record {
        before = [];
        behind = l;
        split = rw z;
        passes = rw (← z) e;
        fail = λ c m. absurd (Memᴰ.not-nil m);
      }
      go false e q ih = let r = ih q in record {
        before = b ∷ r.before;
        behind = r.behind;
        split = λ i. b ∷ r.split i;
        passes = r.passes;
        fail = λ c m. ⊎_elim (λ z. rw z e) (r.fail c) (Memᴰ.cases_cons m);
      }

  -- a filter that all pass
  pub keep_whole : (f : A → Bool) (l : List A) → ((a : A) → Memᴰ a l → f a ≡ true) → keep f l ≡ l
  unfolding keep
  keep_whole f [] h = refl
  keep_whole f (a ∷ l) h = rw (h a (Memᴰ.head refl), keep_whole f l (λ b m. h b (Memᴰ.tail m)))

  pub keep_shorter : (f : A → Bool) (l : List A) → length (keep f l) ≤ length l
  unfolding keep
  keep_shorter f [] = omega arith
  keep_shorter f (a ∷ l) = go (f a) (keep_shorter f l)
    where
      go : (b : Bool) → length (keep f l) ≤ length l → length (cond b (a ∷ keep f l) (keep f l)) ≤ suc (length l)
      go true h = omega arith
      go false h = omega arith

  -- `all` by members
  pub all_mem : (f : A → Bool) (l : List A) → T (all f l) → {a : A} → Memᴰ a l → T (f a)
  unfolding all
  all_mem f [] t {a = a} m = elim m [ ]
  all_mem f (b ∷ l) t (Memᴰ.head e) = rw e (and_T (f b) (all f l) t).0
  all_mem f (b ∷ l) t (Memᴰ.tail m) = all_mem f l (and_T (f b) (all f l) t).1 m

  pub mem_all : (f : A → Bool) (l : List A) → ((a : A) → Memᴰ a l → T (f a)) → T (all f l)
  unfolding all
  mem_all f [] h = tt
  mem_all f (b ∷ l) h = T_and (f b) (all f l) (h b (Memᴰ.head refl)) (mem_all f l (λ a m. h a (Memᴰ.tail m)))

  -- a list that fails has a member that fails
  pub not_all : (f : A → Bool) (l : List A) → ¬ T (all f l) → (a : A) × Memᴰ a l × (f a ≡ false)
  unfolding all
  not_all f [] h = absurd (h tt)
  not_all f (b ∷ l) h = go (f b) refl (not_all f l)
    where
      go : (x : Bool) → f b ≡ x → (¬ T (all f l) → (a : A) × Memᴰ a l × (f a ≡ false)) → (a : A) × Memᴰ a (b ∷ l) × (f a ≡ false)
      go true e ih = let r = ih (λ t. h (rw e t)) in (r.0, Memᴰ.tail r.1, r.2)
      go false e ih = (b, Memᴰ.head refl, e)

  pub all_cong : (f g : A → Bool) (l : List A) → ((a : A) → Memᴰ a l → f a ≡ g a) → all f l ≡ all g l
  unfolding all
  all_cong f g [] h = refl
  all_cong f g (a ∷ l) h = rw (h a (Memᴰ.head refl), all_cong f g l (λ b m. h b (Memᴰ.tail m)))

-- what members give, by members
module _ {A B : Type 0} (f : A → List B) where
  pub joined_append : (l m : List A) → joined f (l ++ m) ≡ joined f l ++ joined f m
  unfolding joined
  joined_append [] m = refl
  joined_append (a ∷ l) m = rw (joined_append l m) (sym (append_assoc (f a) (joined f l) (joined f m)))

  pub joined_mem : (l : List A) {x : B} → Memᴰ x (joined f l) → (a : A) × Memᴰ a l × Memᴰ x (f a)
  unfolding joined
  joined_mem [] m = absurd (Memᴰ.not-nil m)
  joined_mem (a ∷ l) m =
      ⊎_elim (λ n. (a, Memᴰ.head refl, n)) (λ n. let r = joined_mem l n in (r.0, Memᴰ.tail r.1, r.2)) (Memᴰ.append_cases (f a) m)

  pub mem_joined : (l : List A) {a : A} {x : B} → Memᴰ a l → Memᴰ x (f a) → Memᴰ x (joined f l)
  unfolding joined
  mem_joined [] {a = a} {x = x} m n = elim m [ ]
  mem_joined (b ∷ l) {a} {x} (Memᴰ.head e) n = let k : Memᴰ x (f b) = rw e at n in Memᴰ.append_left (joined f l) k
  mem_joined (b ∷ l) (Memᴰ.tail m) n = Memᴰ.append_right (f b) (mem_joined l m n)

-- what members give turns only on what each gives
pub joined_cong : {A B : Type 0} (f g : A → List B) (l : List A) → ((a : A) → Memᴰ a l → f a ≡ g a) → joined f l ≡ joined g l
unfolding joined
joined_cong f g [] h = refl
joined_cong f g (a ∷ l) h = rw (h a (Memᴰ.head refl), joined_cong f g l (λ b m. h b (Memᴰ.tail m)))

module _ {A B : Type 0} (f : A → B) where
  pub map_append : (l m : List A) → map f (l ++ m) ≡ map f l ++ map f m
  map_append [] m = refl
  map_append (a ∷ l) m = let e = map_append l m in λ i. f a ∷ e i

  -- filters and tests of an image of a list
  pub keep_map : (p : B → Bool) (l : List A) → keep p (map f l) ≡ map f (keep (λ a. p (f a)) l)
  unfolding keep
  keep_map p [] = refl
  keep_map p (a ∷ l) = go (p (f a)) (keep_map p l)
    where
      go : (b : Bool) → keep p (map f l) ≡ map f (keep (λ a. p (f a)) l)
          → cond b (f a ∷ keep p (map f l)) (keep p (map f l)) ≡ map f (cond b (a ∷ keep (λ a. p (f a)) l) (keep (λ a. p (f a)) l))
      go true ih = λ i. f a ∷ ih i
      go false ih = ih

  pub all_map : (p : B → Bool) (l : List A) → all p (map f l) ≡ all (λ a. p (f a)) l
  unfolding all
  all_map p [] = refl
  all_map p (a ∷ l) = rw (all_map p l)

pub joined_map : {A B C : Type 0} (g : A → B) (f : B → List C) (l : List A) → joined f (map g l) ≡ joined (λ a. f (g a)) l
unfolding joined
joined_map g f [] = refl
joined_map g f (a ∷ l) = rw (joined_map g f l)

-- by place
pub get_d_map : {A B : Type 0} (f : A → B) (l : List A) (i : ℕ) (d : B) (e : A) → i < length l → get_or (map f l) i d ≡ f (get_or l i e)
get_d_map f [] i d e h = absurd (omega arith)
get_d_map f (x ∷ l) zero d e h = refl
get_d_map f (x ∷ l) (suc i) d e h = get_d_map f l i d e (omega arith)
