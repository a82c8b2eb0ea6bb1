-- Where good areas lie: apart, and together no longer than the image.
use Rattle.std.specs.Prelude.{ℕ, zero, suc, ◌+◌, ◌≤◌, ◌<◌, ◌≡◌, refl, ◌⊎◌, ◌≢◌, Bool, true, false, cond, length, get_or, T, leb}
use Rattle.std.proofs.Common.{sym, ap, ◌∙◌, inl, inr, ⊎_elim, arith, length-append, leb→le, le-leb}
use Rattle.std.proofs.Math.Bool.{or-true}
use mathlib.Core.List.Memᴰ
use mathlib.Core.List.{List, [], ◌∷◌, ◌++◌, Memᴰ}
use Rattle.std.proofs.Math.Decide.{ℕ_discrete}
use Rattle.volume.specs.Lists.{keep, all}
use Rattle.volume_laws.specs.Tests.{true→T, T→true, and_T, T_and}
use Rattle.volume_laws.specs.Lists.{keep_mem, all_mem, mem_all}
use Rattle.volume_laws.specs.Once.{Nodup, pigeons}
use Rattle.format_laws.specs.Record.{or_cases}
use Rattle.calls.specs.Areas.{area_end, good_area, disjoint, all_disjoint}
use Rattle.calls.specs.declared.Descriptor.{Descriptor}
use Rattle.area_list.specs.Described.{area_of, described, described_at}
use Rattle.area_list.specs.Good.{fits}

-- ---- apart

-- one area ends before the other begins
abbrev pub Clear : Descriptor → Descriptor → Type 0
Clear d e = (area_end d ≤ e.offset) ⊎ (area_end e ≤ d.offset)

pub clear_sym : (d e : Descriptor) → Clear d e → Clear e d
clear_sym d e (inl h) = inr h
clear_sym d e (inr h) = inl h

pub disjoint_clear : (d e : Descriptor) → T (disjoint d e) → Clear d e
unfolding disjoint
disjoint_clear d e t =
    ⊎_elim (λ h. inl (leb→le (area_end d) e.offset (true→T h))) (λ h. inr (leb→le (area_end e) d.offset (true→T h)))
    (or_cases (leb (area_end d) e.offset) (leb (area_end e) d.offset) (T→true t))

pub clear_disjoint : (d e : Descriptor) → Clear d e → disjoint d e ≡ true
unfolding disjoint
clear_disjoint d e (inl h) = rw (le-leb (area_end d) e.offset h)
clear_disjoint d e (inr h) = rw (le-leb (area_end e) d.offset h) (or-true (leb (area_end d) e.offset))

-- the first and the later ones of areas that do not overlap
pub split_first : (d : Descriptor) (l : List Descriptor) → T (all_disjoint (d ∷ l)) → ((e : Descriptor) → Memᴰ e l → Clear d e) × T (all_disjoint l)
unfolding all_disjoint
split_first d l t =
    let p = and_T (all (disjoint d) l) (all_disjoint l) t in
    ((λ e m. disjoint_clear d e (all_mem (disjoint d) l p.0 m)), p.1)

members : (l : List Descriptor) → T (all_disjoint l) → (d e : Descriptor) → Memᴰ d l → Memᴰ e l → d ≢ e → Clear d e
members [] t d e m _ n = elim m [ ]
members (a ∷ l) t d e (Memᴰ.head p) (Memᴰ.head q) n = absurd (n (p ∙ sym q))
members (a ∷ l) t d e (Memᴰ.head p) (Memᴰ.tail k) n = rw p ((split_first a l t).0 e k)
members (a ∷ l) t d e (Memᴰ.tail m) (Memᴰ.head q) n = clear_sym e d (rw q ((split_first a l t).0 d m))
members (a ∷ l) t d e (Memᴰ.tail m) (Memᴰ.tail k) n = members l (split_first a l t).1 d e m k n

-- any two different members
pub apart_members : (l : List Descriptor) → all_disjoint l ≡ true → (d e : Descriptor) → Memᴰ d l → Memᴰ e l → d ≢ e → Clear d e
apart_members l h = members l (true→T h)

-- any two places of the list
places : (starts spans : List ℕ) → T (all_disjoint (described starts spans)) → (i j : ℕ) → i < j → j < length starts → j < length spans
    → Clear (area_of (get_or starts i 0) (get_or spans i 0)) (area_of (get_or starts j 0) (get_or spans j 0))
unfolding described
places [] spans t i j h g k = absurd (omega arith)
places (o ∷ starts) [] t i j h g k = absurd (omega arith)
places (o ∷ starts) (n ∷ spans) t i zero h g k = absurd (omega arith)
places (o ∷ starts) (n ∷ spans) t zero (suc j) h g k = (split_first (area_of o n) (described starts spans) t).0 _ (described_at starts spans j (omega arith) (omega arith))
places (o ∷ starts) (n ∷ spans) t (suc i) (suc j) h g k = places starts spans (split_first (area_of o n) (described starts spans) t).1 i j (omega arith) (omega arith) (omega arith)

pub apart_places : (starts spans : List ℕ) → all_disjoint (described starts spans) ≡ true → (i j : ℕ) → i < j → j < length starts → j < length spans
    → Clear (area_of (get_or starts i 0) (get_or spans i 0)) (area_of (get_or starts j 0) (get_or spans j 0))
apart_places starts spans h = places starts spans (true→T h)

-- also of a part of the areas
pub keep_disjoint : (f : Descriptor → Bool) (l : List Descriptor) → T (all_disjoint l) → T (all_disjoint (keep f l))
unfolding all_disjoint keep
keep_disjoint f [] t = tt
keep_disjoint f (d ∷ l) t = go (f d) (and_T (all (disjoint d) l) (all_disjoint l) t) (keep_disjoint f l)
  where
    go : (b : Bool) → T (all (disjoint d) l) × T (all_disjoint l) → (T (all_disjoint l) → T (all_disjoint (keep f l)))
        → T (all_disjoint (cond b (d ∷ keep f l) (keep f l)))
    go true p ih = T_and (all (disjoint d) (keep f l)) (all_disjoint (keep f l))
        (mem_all (disjoint d) (keep f l) (λ e m. all_mem (disjoint d) l p.0 (keep_mem f l m).0)) (ih p.1)
    go false p ih = ih p.1

-- ---- the sum of the spans

unfoldable pub total_length : List Descriptor → ℕ
total_length [] = 0
total_length (d ∷ l) = d.length + total_length l

-- n places from o on
range : ℕ → ℕ → List ℕ
range o zero = []
range o (suc n) = o ∷ range (suc o) n

range_length : (o n : ℕ) → length (range o n) ≡ n
unfolding range
range_length o zero = refl
range_length o (suc n) = ap suc (range_length (suc o) n)

in_range : (o n x : ℕ) → Memᴰ x (range o n) → (o ≤ x) × (x < o + n)
unfolding range
in_range o zero x m = absurd (Memᴰ.not-nil m)
in_range o (suc n) x m =
    ⊎_elim (λ e. (omega arith, omega arith)) (λ k. let h = in_range (suc o) n x k in (omega arith, omega arith)) (Memᴰ.cases_cons m)

range_in : (o n x : ℕ) → o ≤ x → x < o + n → Memᴰ x (range o n)
unfolding range
range_in o zero x h g = absurd (omega arith)
range_in o (suc n) x h g = go (ℕ_discrete x o) (range_in (suc o) n x)
  where
    go : Dec (x ≡ o) → (suc o ≤ x → x < suc o + n → Memᴰ x (range (suc o) n)) → Memᴰ x (o ∷ range (suc o) n)
    go (yes e) ih = Memᴰ.head e
    go (no e) ih = Memᴰ.tail (ih (omega arith) (omega arith))

range_nodup : (o n : ℕ) → Nodup (range o n)
unfolding range
range_nodup o zero = tt
range_nodup o (suc n) = ((λ m. let h = in_range (suc o) n o m in omega arith), range_nodup (suc o) n)

append_nodup : (a b : List ℕ) → Nodup a → Nodup b → ((x : ℕ) → Memᴰ x a → Memᴰ x b → ⊥) → Nodup (a ++ b)
append_nodup [] b na nb h = nb
append_nodup (x ∷ a) b na nb h =
    ((λ m. ⊎_elim na.0 (h x (Memᴰ.head refl)) (Memᴰ.append_cases a m)), append_nodup a b na.1 nb (λ y m. h y (Memᴰ.tail m)))

-- the places of the bytes of areas
cells : List Descriptor → List ℕ
cells [] = []
cells (d ∷ l) = range d.offset d.length ++ cells l

cells_length : (l : List Descriptor) → length (cells l) ≡ total_length l
unfolding cells total_length
cells_length [] = refl
cells_length (d ∷ l) = length-append (range d.offset d.length) (cells l) ∙ rw (range_length d.offset d.length, cells_length l)

in_cells : (l : List Descriptor) (x : ℕ) → Memᴰ x (cells l) → (d : Descriptor) × Memᴰ d l × (d.offset ≤ x) × (x < area_end d)
unfolding cells
in_cells [] x m = absurd (Memᴰ.not-nil m)
in_cells (d ∷ l) x m =
    ⊎_elim (λ k. let r = in_range d.offset d.length x k in (d, Memᴰ.head refl, r.0, r.1))
    (λ k. let r = in_cells l x k in (r.0, Memᴰ.tail r.1, r.2, r.3)) (Memᴰ.append_cases (range d.offset d.length) m)

cells_nodup : (l : List Descriptor) → T (all_disjoint l) → Nodup (cells l)
unfolding cells
cells_nodup [] t = tt
cells_nodup (d ∷ l) t =
    let s = split_first d l t in
    append_nodup (range d.offset d.length) (cells l) (range_nodup d.offset d.length) (cells_nodup l s.1)
    (λ x m k. let r = in_range d.offset d.length x m in let c = in_cells l x k in both d c.0 x r c.2 c.3 (s.0 c.0 c.1))
  where
    both : (d e : Descriptor) (x : ℕ) → (d.offset ≤ x) × (x < area_end d) → e.offset ≤ x → x < area_end e → Clear d e → ⊥
    both d e x r a b (inl h) = omega arith
    both d e x r a b (inr h) = omega arith

-- areas that do not overlap are together no longer than the image
pub total_within : (size : ℕ) (l : List Descriptor) → all (good_area size) l ≡ true → all_disjoint l ≡ true → total_length l ≤ size
total_within size l g a =
    let p = pigeons (cells l) (range 0 size) (cells_nodup l (true→T a)) (λ x m. there x (in_cells l x m)) in
    omega (arith, cells_length l, range_length 0 size)
  where
    there : (x : ℕ) → (d : Descriptor) × Memᴰ d l × (d.offset ≤ x) × (x < area_end d) → Memᴰ x (range 0 size)
    there x (d, m, h, k) =
        let f = (fits size d (T→true (all_mem (good_area size) l (true→T g) m))).inside in
        range_in 0 size x (omega arith) (omega arith)
