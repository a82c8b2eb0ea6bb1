-- Orders that compute, and lists sorted by them.
use Rattle.std.specs.Prelude.{◌≡◌, ◌⊎◌, Bool, ◌&&◌, ◌||◌, take, drop, get_or, ltb, eqb}
use Rattle.std.proofs.Math.Path.{refl, ap}
use Rattle.std.proofs.Common.{sym, inl, inr, arith, lt→ltb, ltb→lt, eqb→eq, ltb-false}
use Rattle.std.proofs.Math.Logic.{⊎_elim}
use Rattle.std.proofs.Math.Bool.{true, false, cond}
use mathlib.Core.List.Memᴰ
use mathlib.Core.List.{List, [], ◌∷◌, ◌++◌, map, Memᴰ}
use Prim.Native.Nat.{ℕ, zero, suc, ◌≤◌, ◌<◌}
use Rattle.std.proofs.Math.ListN.{length}
use Rattle.std.proofs.Math.Dec.{T, eqb_refl}
use Rattle.format.specs.Bytes.{Bytes}
use Rattle.volume.specs.Lists.{keep, insert, sort, same}
use Rattle.volume.specs.Listing.{bytes_before}
use Rattle.volume_laws.specs.Tests.{true→T, not_T→false}
use Rattle.volume_laws.specs.Lists.{same_refl, same_eq, keep_mem, get_or_mem}
use Rattle.volume_laws.specs.Once.{Nodup}

-- ---- orders

-- what sorting asks of an order: members may tie
pub record Order {A : Type 0} (before : A → A → Bool) : Type 0 where
  pub irreflexive : (a : A) → ¬ T (before a a)
  pub transitive : (a b c : A) → T (before a b) → T (before b c) → T (before a c)
  pub cotransitive : (a b c : A) → T (before a c) → T (before a b) ⊎ T (before b c)

-- an order under which only equals tie
pub record Linear {K : Type 0} (before : K → K → Bool) : Type 0 where
  pub irreflexive : (x : K) → ¬ T (before x x)
  pub transitive : (x y z : K) → T (before x y) → T (before y z) → T (before x z)
  pub total : (x y : K) → T (before x y) ⊎ ((x ≡ y) ⊎ T (before y x))

-- members ordered by a key
pub by_key : {A K : Type 0} {before : K → K → Bool} → Linear before → (key : A → K) → Order (λ a b. before (key a) (key b))
by_key {before} h key = record {
  irreflexive = λ a. h.irreflexive (key a);
  transitive = λ a b c. h.transitive (key a) (key b) (key c);
  cotransitive = λ a b c t. ⊎_elim inl
      (⊎_elim (λ e. inr (rw e at t)) (λ s. inr (h.transitive (key b) (key a) (key c) s t)))
      (h.total (key a) (key b));
}

-- first by one order, and where that ties by what r says
abbrev Lex : {K : Type 0} → (K → K → Bool) → K → K → Type 0 → Type 0
Lex before x y r = T (before x y) ⊎ ((x ≡ y) × r)

module _ {K : Type 0} {before : K → K → Bool} (h : Linear before) where
  lex_irreflexive : (x : K) {r : Type 0} → ¬ r → ¬ Lex before x x r
  lex_irreflexive x n = ⊎_elim (h.irreflexive x) (λ w. n w.1)

  lex_transitive : (x y z : K) {r s t : Type 0} → (r → s → t) → Lex before x y r → Lex before y z s → Lex before x z t
  lex_transitive x y z f (inl a) (inl b) = inl (h.transitive x y z a b)
  lex_transitive x y z f (inl a) (inr b) = inl (rw b.0 at a)
  lex_transitive x y z f (inr a) (inl b) = inl (rw a.0 b)
  lex_transitive x y z f (inr a) (inr b) = inr (cc, f a.1 b.1)

  lex_total : (x y : K) {r e s : Type 0} → r ⊎ (e ⊎ s) → Lex before x y r ⊎ (((x ≡ y) × e) ⊎ Lex before y x s)
  lex_total x y o = ⊎_elim (λ t. inl (inl t))
      (⊎_elim (λ q. ⊎_elim (λ r. inl (inr (q, r))) (⊎_elim (λ e. inr (inl (q, e))) (λ s. inr (inr (inr (sym q, s))))) o) (λ t. inr (inr (inl t))))
      (h.total x y)

-- such an order as a test
lex_T : (a b c : Bool) → T (a || (b && c)) → T a ⊎ (T b × T c)
lex_T true b c t = inl tt
lex_T false true c t = inr (tt, t)
lex_T false false c t = absurd t

T_lex : (a b c : Bool) → T a ⊎ (T b × T c) → T (a || (b && c))
T_lex true b c t = tt
T_lex false true c (inl t) = absurd t
T_lex false true c (inr t) = t.1
T_lex false false c (inl t) = absurd t
T_lex false false c (inr t) = absurd t.0

pub numbers : Linear ltb
numbers = record {
  irreflexive = λ x t. let l = ltb→lt x x t in omega arith;
  transitive = λ x y z s t. let l = ltb→lt x y s in let m = ltb→lt y z t in lt→ltb x z (omega arith);
  total = λ x y. go x y (ltb x y) refl (ltb y x) refl;
}
  where
    go : (x y : ℕ) (b : Bool) → ltb x y ≡ b → (c : Bool) → ltb y x ≡ c → T (ltb x y) ⊎ ((x ≡ y) ⊎ T (ltb y x))
    go x y true e c f = inl (true→T e)
    go x y false e true f = inr (inr (true→T f))
    go x y false e false f = let l = ltb-false x y e in let m = ltb-false y x f in inr (inl (omega arith))

-- one byte more
bytes_lex : (x y : ℕ) (l m : Bytes) → T (bytes_before (x ∷ l) (y ∷ m)) → Lex ltb x y (T (bytes_before l m))
unfolding bytes_before
bytes_lex x y l m t = ⊎_elim inl (λ w. inr (eqb→eq x y w.0, w.1)) (lex_T (ltb x y) (eqb x y) (bytes_before l m) t)

lex_bytes : (x y : ℕ) (l m : Bytes) → Lex ltb x y (T (bytes_before l m)) → T (bytes_before (x ∷ l) (y ∷ m))
unfolding bytes_before
lex_bytes x y l m o = T_lex (ltb x y) (eqb x y) (bytes_before l m) (⊎_elim inl (λ w. inr (rw w.0 (eqb_refl y), w.1)) o)

bytes_irreflexive : (l : Bytes) → ¬ T (bytes_before l l)
unfolding bytes_before
bytes_irreflexive [] t = t
bytes_irreflexive (x ∷ l) t = lex_irreflexive numbers x (bytes_irreflexive l) (bytes_lex x x l l t)

bytes_transitive : (l m n : Bytes) → T (bytes_before l m) → T (bytes_before m n) → T (bytes_before l n)
unfolding bytes_before
bytes_transitive [] [] n s t = absurd s
bytes_transitive [] (y ∷ m) [] s t = absurd t
bytes_transitive [] (y ∷ m) (z ∷ n) s t = tt
bytes_transitive (x ∷ l) [] n s t = absurd s
bytes_transitive (x ∷ l) (y ∷ m) [] s t = absurd t
bytes_transitive (x ∷ l) (y ∷ m) (z ∷ n) s t =
    lex_bytes x z l n (lex_transitive numbers x y z (bytes_transitive l m n) (bytes_lex x y l m s) (bytes_lex y z m n t))

bytes_total : (l m : Bytes) → T (bytes_before l m) ⊎ ((l ≡ m) ⊎ T (bytes_before m l))
unfolding bytes_before
bytes_total [] [] = inr (inl refl)
bytes_total [] (y ∷ m) = inl tt
bytes_total (x ∷ l) [] = inr (inr tt)
bytes_total (x ∷ l) (y ∷ m) =
    ⊎_elim (λ o. inl (lex_bytes x y l m o)) (⊎_elim (λ w. inr (inl (cc))) (λ o. inr (inr (lex_bytes y x m l o))))
    (lex_total numbers x y (bytes_total l m))

pub bytes : Linear bytes_before
bytes = record { irreflexive = bytes_irreflexive; transitive = bytes_transitive; total = bytes_total }

-- "in order of name bytes, then id"
abbrev pub pair_before : Bytes × ℕ → Bytes × ℕ → Bool
pair_before a b = bytes_before a.0 b.0 || (same a.0 b.0 && ltb a.1 b.1)

pair_lex : (a b : Bytes × ℕ) → T (pair_before a b) → Lex bytes_before a.0 b.0 (T (ltb a.1 b.1))
pair_lex a b t = ⊎_elim inl (λ w. inr (same_eq a.0 b.0 w.0, w.1)) (lex_T (bytes_before a.0 b.0) (same a.0 b.0) (ltb a.1 b.1) t)

lex_pair : (a b : Bytes × ℕ) → Lex bytes_before a.0 b.0 (T (ltb a.1 b.1)) → T (pair_before a b)
lex_pair a b o =
    T_lex (bytes_before a.0 b.0) (same a.0 b.0) (ltb a.1 b.1) (⊎_elim inl (λ w. inr (rw w.0 (same_refl b.0), w.1)) o)

pub pairs : Linear pair_before
pairs = record {
  irreflexive = λ a t. lex_irreflexive bytes a.0 (numbers.irreflexive a.1) (pair_lex a a t);
  transitive = λ a b c s t.
      lex_pair a c (lex_transitive bytes a.0 b.0 c.0 (numbers.transitive a.1 b.1 c.1) (pair_lex a b s) (pair_lex b c t));
  total = λ a b.
      ⊎_elim (λ o. inl (lex_pair a b o)) (⊎_elim (λ w. inr (inl (λ i. (w.0 i, w.1 i)))) (λ o. inr (inr (lex_pair b a o))))
      (lex_total bytes a.0 b.0 (numbers.total a.1 b.1));
}

-- members ordered by bytes of theirs, then by a number
pub bytes_then_number : {A : Type 0} (f : A → Bytes) (g : A → ℕ) → Order (λ a b. bytes_before (f a) (f b) || (same (f a) (f b) && ltb (g a) (g b)))
bytes_then_number f g = by_key pairs (λ a. (f a, g a))

-- ---- members of a sorted list

module _ {A : Type 0} (before : A → A → Bool) where
  -- nothing later comes before something earlier
  abbrev pub Sorted : List A → Type 0
  Sorted [] = Unit {0}
  Sorted (a ∷ l) = ((b : A) → Memᴰ b l → before b a ≡ false) × Sorted l

  pub insert_mem : (a : A) (l : List A) {b : A} → Memᴰ b (insert before a l) → Memᴰ b (a ∷ l)
  unfolding insert
  insert_mem a [] m = m
  insert_mem a (c ∷ l) {b} m = go (before a c) m (insert_mem a l)
    where
      go : (x : Bool) → Memᴰ b (cond x (a ∷ c ∷ l) (c ∷ insert before a l)) → (Memᴰ b (insert before a l) → Memᴰ b (a ∷ l))
          → Memᴰ b (a ∷ c ∷ l)
      go true m ih = m
      go false (Memᴰ.head e) ih = Memᴰ.tail (Memᴰ.head e)
      go false (Memᴰ.tail m) ih =
          ⊎_elim (λ e. Memᴰ.head e) (λ n. Memᴰ.tail (Memᴰ.tail n)) (Memᴰ.cases_cons (ih m))

  pub mem_insert : (a : A) (l : List A) {b : A} → Memᴰ b (a ∷ l) → Memᴰ b (insert before a l)
  unfolding insert
  mem_insert a [] m = m
  mem_insert a (c ∷ l) {b} m = go (before a c) (Memᴰ.cases_cons m) (mem_insert a l)
    where
      under : (b ≡ c) ⊎ Memᴰ b l → (Memᴰ b (a ∷ l) → Memᴰ b (insert before a l)) → Memᴰ b (c ∷ insert before a l)
      under o ih = ⊎_elim (λ e. Memᴰ.head e) (λ n. Memᴰ.tail (ih (Memᴰ.tail n))) o

      go : (x : Bool) → (b ≡ a) ⊎ Memᴰ b (c ∷ l) → (Memᴰ b (a ∷ l) → Memᴰ b (insert before a l))
          → Memᴰ b (cond x (a ∷ c ∷ l) (c ∷ insert before a l))
      go true o ih = ⊎_elim (λ e. Memᴰ.head e) (λ n. Memᴰ.tail n) o
      go false o ih = ⊎_elim (λ e. Memᴰ.tail (ih (Memᴰ.head e))) (λ n. under (Memᴰ.cases_cons n) ih) o

  pub length_insert : (a : A) (l : List A) → length (insert before a l) ≡ suc (length l)
  unfolding insert
  length_insert a [] = refl
  length_insert a (b ∷ l) = go (before a b) (length_insert a l)
    where
      go : (x : Bool) → length (insert before a l) ≡ suc (length l) → length (cond x (a ∷ b ∷ l) (b ∷ insert before a l)) ≡ suc (suc (length l))
      go true ih = refl
      go false ih = ap suc ih

  pub sort_mem : (l : List A) {b : A} → Memᴰ b (sort before l) → Memᴰ b l
  unfolding sort
  sort_mem [] m = m
  sort_mem (a ∷ l) m = ⊎_elim (λ e. Memᴰ.head e) (λ n. Memᴰ.tail (sort_mem l n)) (Memᴰ.cases_cons (insert_mem a (sort before l) m))

  pub mem_sort : (l : List A) {b : A} → Memᴰ b l → Memᴰ b (sort before l)
  unfolding sort
  mem_sort [] {b = b} m = elim m [ ]
  mem_sort (a ∷ l) (Memᴰ.head e) = mem_insert a (sort before l) (Memᴰ.head e)
  mem_sort (a ∷ l) (Memᴰ.tail m) = mem_insert a (sort before l) (Memᴰ.tail (mem_sort l m))

  pub length_sort : (l : List A) → length (sort before l) ≡ length l
  unfolding sort
  length_sort [] = refl
  length_sort (a ∷ l) = rw (length_insert, length_sort l)

  pub sorted_keep : (f : A → Bool) (l : List A) → Sorted l → Sorted (keep f l)
  unfolding keep
  sorted_keep f [] h = tt
  sorted_keep f (a ∷ l) h = go (f a) (sorted_keep f l h.1)
    where
      go : (x : Bool) → Sorted (keep f l) → Sorted (cond x (a ∷ keep f l) (keep f l))
      go true ih = ((λ b m. h.0 b (keep_mem f l m).0), ih)
      go false ih = ih

  module _ (o : Order before) where
    pub sorted_insert : (a : A) (l : List A) → Sorted l → Sorted (insert before a l)
    unfolding insert
    sorted_insert a [] h = ((λ b m. absurd (Memᴰ.not-nil m)), tt)
    sorted_insert a (b ∷ l) h = go (before a b) refl (sorted_insert a l h.1)
      where
        -- what would come before a would come before b
        behind : T (before a b) → (c : A) → (c ≡ b) ⊎ Memᴰ c l → before c a ≡ false
        behind t c (inl e) = not_T→false (λ s. o.irreflexive b (o.transitive b a b (rw e at s) t))
        behind t c (inr m) = not_T→false (λ s. let z : T false = rw (h.0 c m) at (o.transitive c a b s t) in z)

        go : (x : Bool) → before a b ≡ x → Sorted (insert before a l) → Sorted (cond x (a ∷ b ∷ l) (b ∷ insert before a l))
        go true e ih = ((λ c m. behind (true→T e) c (Memᴰ.cases_cons m)), h)
        go false e ih =
            ((λ c m. ⊎_elim (λ q. rw q e) (h.0 c) (Memᴰ.cases_cons (insert_mem a l m))), ih)

    pub sorted_sort : (l : List A) → Sorted (sort before l)
    unfolding sort
    sorted_sort [] = tt
    sorted_sort (a ∷ l) = sorted_insert a (sort before l) (sorted_sort l)

-- members that stand once still do
pub nodup_insert : (before : ℕ → ℕ → Bool) (a : ℕ) (l : List ℕ) → ¬ Memᴰ a l → Nodup l → Nodup (insert before a l)
unfolding insert
nodup_insert before a [] n h = (n, tt)
nodup_insert before a (b ∷ l) n h = go (before a b) (nodup_insert before a l (λ m. n (Memᴰ.tail m)) h.1)
  where
    go : (x : Bool) → Nodup (insert before a l) → Nodup (cond x (a ∷ b ∷ l) (b ∷ insert before a l))
    go true ih = (n, h)
    go false ih =
        ((λ m. ⊎_elim (λ e. n (Memᴰ.head (sym e))) h.0 (Memᴰ.cases_cons (insert_mem before a l m))), ih)

pub nodup_sort : (before : ℕ → ℕ → Bool) (l : List ℕ) → Nodup l → Nodup (sort before l)
unfolding sort
nodup_sort before [] h = tt
nodup_sort before (a ∷ l) h = nodup_insert before a (sort before l) (λ m. h.0 (sort_mem before l m)) (nodup_sort before l h.1)

-- ---- places in a sorted list

module _ {A : Type 0} (before : A → A → Bool) (d : A) where
  -- what is inserted stands at the first place before whose member it comes
  pub insert_at : (a : A) (l : List A) (p : ℕ) → p ≤ length l → ((k : ℕ) → k < p → before a (get_or l k d) ≡ false)
      → (p < length l → before a (get_or l p d) ≡ true) → insert before a l ≡ take p l ++ (a ∷ drop p l)
  unfolding insert
  insert_at a [] zero h f g = refl
  insert_at a [] (suc p) h f g = absurd (omega arith)
  insert_at a (b ∷ l) zero h f g = rw (g (omega arith))
  insert_at a (b ∷ l) (suc p) h f g =
      rw (f 0 (omega arith), insert_at a l p (omega arith) (λ k i. f (suc k) (omega arith)) (λ i. g (omega arith)))

  pub sorted_at : (l : List A) → Sorted before l → (j k : ℕ) → j < k → k < length l → before (get_or l k d) (get_or l j d) ≡ false
  sorted_at [] h j k i w = absurd (omega arith)
  sorted_at (a ∷ l) h j zero i w = absurd (omega arith)
  sorted_at (a ∷ l) h zero (suc k) i w = h.0 (get_or l k d) (get_or_mem l k d (omega arith))
  sorted_at (a ∷ l) h (suc j) (suc k) i w = sorted_at l h.1 j k (omega arith) (omega arith)

  module _ (o : Order before) (l : List A) (h : Sorted before l) (a : A) (j k : ℕ) (i : j ≤ k) (w : k < length l) where
    -- what comes before a member comes before all that stand behind it
    pub before_later : T (before a (get_or l j d)) → T (before a (get_or l k d))
    before_later t = go (ltb j k) refl
      where
        go : (x : Bool) → ltb j k ≡ x → T (before a (get_or l k d))
        go true e =
            ⊎_elim (λ s. s) (λ s. let z : T false = rw (sorted_at l h j k (ltb→lt j k (true→T e)) w) at s in absurd z)
            (o.cotransitive a (get_or l k d) (get_or l j d) t)
        go false e = let q : k ≡ j = omega (arith, ltb-false j k e) in rw q t

    pub not_before_earlier : before a (get_or l k d) ≡ false → before a (get_or l j d) ≡ false
    not_before_earlier e = not_T→false (λ t. let z : T false = rw e at (before_later t) in z)

-- ---- sorting alike

module _ {A : Type 0} (p q : A → A → Bool) where
  insert_cong : (a : A) (l : List A) → ((b : A) → Memᴰ b l → p a b ≡ q a b) → insert p a l ≡ insert q a l
  unfolding insert
  insert_cong a [] h = refl
  insert_cong a (b ∷ l) h = rw (h b (Memᴰ.head refl), insert_cong a l (λ c m. h c (Memᴰ.tail m)))

  -- sorting turns only on what the order says of the members
  pub sort_cong : (l : List A) → ((a b : A) → Memᴰ a l → Memᴰ b l → p a b ≡ q a b) → sort p l ≡ sort q l
  unfolding sort
  sort_cong [] h = refl
  sort_cong (a ∷ l) h =
      rw (sort_cong l (λ b c m n. h b c (Memᴰ.tail m) (Memᴰ.tail n)))
      (insert_cong a (sort q l) (λ b m. h a b (Memᴰ.head refl) (Memᴰ.tail (sort_mem q l m))))

module _ {A B : Type 0} (f : A → B) (p : B → B → Bool) where
  insert_map : (a : A) (l : List A) → map f (insert (λ b c. p (f b) (f c)) a l) ≡ insert p (f a) (map f l)
  unfolding insert
  insert_map a [] = refl
  insert_map a (b ∷ l) = go (p (f a) (f b)) (insert_map a l)
    where
      go : (x : Bool) → map f (insert (λ b c. p (f b) (f c)) a l) ≡ insert p (f a) (map f l)
          → map f (cond x (a ∷ b ∷ l) (b ∷ insert (λ b c. p (f b) (f c)) a l)) ≡ cond x (f a ∷ f b ∷ map f l) (f b ∷ insert p (f a) (map f l))
      go true ih = refl
      go false ih = λ i. f b ∷ ih i

  -- sorting by what f gives, and sorting what it gives
  pub sort_map : (l : List A) → map f (sort (λ a b. p (f a) (f b)) l) ≡ sort p (map f l)
  unfolding sort
  sort_map [] = refl
  sort_map (a ∷ l) = rw (insert_map, sort_map l)
