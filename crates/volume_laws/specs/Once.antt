-- Lists of numbers in which each stands once, and what does not turn on their order.
use Rattle.std.specs.Prelude.{◌≡◌, refl, Bool, true, false, cond, not, ℕ, suc, ◌≤◌, ◌<◌, length, T, eqb, leb}
use Rattle.std.proofs.Common.{sym, ap, ◌∙◌, ⊎_elim, arith, eqb→eq, le→leb}
use mathlib.Core.List.Memᴰ
use mathlib.Core.List.{List, [], ◌∷◌, ◌++◌, Memᴰ}
use Rattle.volume.specs.Lists.{keep, all, joined, once, several, one, only}
use Rattle.volume_laws.specs.Tests.{T→true, true→T, T_iff, T_other, not_self, eqb_self, eqb_false}
use Rattle.volume_laws.specs.Lists.{keep_mem, mem_keep, keep_shorter, all_mem, mem_all, joined_mem}

-- no number stands twice
abbrev pub Nodup : List ℕ → Type 0
Nodup [] = Unit {0}
Nodup (x ∷ l) = (¬ Memᴰ x l) × Nodup l

pub nodup_keep : (f : ℕ → Bool) (l : List ℕ) → Nodup l → Nodup (keep f l)
unfolding keep
nodup_keep f [] h = tt
nodup_keep f (x ∷ l) h = go (f x) (nodup_keep f l h.1)
  where
    go : (b : Bool) → Nodup (keep f l) → Nodup (cond b (x ∷ keep f l) (keep f l))
    go true ih = ((λ m. h.0 (keep_mem f l m).0), ih)
    go false ih = ih

-- of two lists that share nothing
pub nodup_append : (l m : List ℕ) → Nodup l → Nodup m → ((x : ℕ) → Memᴰ x l → ¬ Memᴰ x m) → Nodup (l ++ m)
nodup_append [] m h k apart = k
nodup_append (x ∷ l) m h k apart = (
  λ n. ⊎_elim h.0 (apart x (Memᴰ.head refl)) (Memᴰ.append_cases l n),
  nodup_append l m h.1 k (λ y n. apart y (Memᴰ.tail n)),
)

-- of lists of which no two share anything
pub nodup_joined : (f : ℕ → List ℕ) (l : List ℕ) → Nodup l → ((a : ℕ) → Memᴰ a l → Nodup (f a))
    → ((a b x : ℕ) → Memᴰ a l → Memᴰ b l → Memᴰ x (f a) → Memᴰ x (f b) → a ≡ b) → Nodup (joined f l)
unfolding joined
nodup_joined f [] h each apart = tt
nodup_joined f (a ∷ l) h each apart =
    nodup_append (f a) (joined f l) (each a (Memᴰ.head refl))
    (nodup_joined f l h.1 (λ b m. each b (Memᴰ.tail m)) (λ b c x m n. apart b c x (Memᴰ.tail m) (Memᴰ.tail n)))
    (λ x m n.
    let r = joined_mem f l n in
    let e = apart a r.0 x (Memᴰ.head refl) (Memᴰ.tail r.1) m r.2 in
    h.0 (Memᴰ.cast e r.1))

-- `once` has the same members, each once
pub once_nodup : (l : List ℕ) → Nodup (once l)
unfolding once
once_nodup [] = tt
once_nodup (x ∷ l) = ((λ m. not_self x (keep_mem _ (once l) m).1), nodup_keep _ (once l) (once_nodup l))

pub once_mem : (l : List ℕ) {x : ℕ} → Memᴰ x (once l) → Memᴰ x l
unfolding once
once_mem [] m = m
once_mem (y ∷ l) (Memᴰ.head e) = Memᴰ.head e
once_mem (y ∷ l) (Memᴰ.tail m) = Memᴰ.tail (once_mem l (keep_mem _ (once l) m).0)

pub mem_once : (l : List ℕ) (x : ℕ) → Memᴰ x l → Memᴰ x (once l)
unfolding once
mem_once [] x m = elim m [ ]
mem_once (y ∷ l) x (Memᴰ.head e) = Memᴰ.head e
mem_once (y ∷ l) x (Memᴰ.tail m) = go (eqb x y) refl (mem_once l x m)
  where
    go : (b : Bool) → eqb x y ≡ b → Memᴰ x (once l) → Memᴰ x (y ∷ keep (λ z. not (eqb z y)) (once l))
    go true e n = Memᴰ.head (eqb→eq x y (true→T e))
    go false e n = Memᴰ.tail (mem_keep _ (once l) n (T_other x y (eqb_false x y e)))

one_less : (x : ℕ) (l : List ℕ) → Memᴰ x l → length (keep (λ y. not (eqb y x)) l) < length l
unfolding keep
one_less x [] m = elim m [ ]
one_less x (y ∷ l) (Memᴰ.head e) =
    let q : eqb y x ≡ true = rw (sym e) (eqb_self x) in
    let s = keep_shorter (λ z. not (eqb z x)) l in
    rw q (omega arith)
one_less x (y ∷ l) (Memᴰ.tail m) = go (not (eqb y x)) (one_less x l m)
  where
    rest : List ℕ
    rest = keep (λ y. not (eqb y x)) l

    go : (b : Bool) → length rest < length l → length (cond b (y ∷ rest) rest) < suc (length l)
    go true h = omega arith
    go false h = omega arith

-- a list without repetition is no longer than one that has all its members
pub pigeons : (l m : List ℕ) → Nodup l → ((x : ℕ) → Memᴰ x l → Memᴰ x m) → length l ≤ length m
pigeons [] m n s = omega arith
pigeons (x ∷ l) m n s =
    let there : (y : ℕ) → Memᴰ y l → Memᴰ y (keep (λ y. not (eqb y x)) m)
    = λ y k. mem_keep _ m (s y (Memᴰ.tail k)) (T_other y x (λ e. n.0 (Memᴰ.cast (sym e) k))) in
    let h = pigeons l (keep (λ y. not (eqb y x)) m) n.1 there in
    let b = one_less x m (s x (Memᴰ.head refl)) in
    omega arith

-- Two lists with the same members, each once: only their order may differ.
pub record Alike (l m : List ℕ) : Type 0 where
  pub nodup_l : Nodup l
  pub nodup_m : Nodup m
  pub to : (x : ℕ) → Memᴰ x l → Memᴰ x m
  pub back : (x : ℕ) → Memᴰ x m → Memᴰ x l

-- what is kept of two lists that each hold all that pass
pub alike_keep : (p q : ℕ → Bool) (l m : List ℕ) → Nodup l → Nodup m → ((x : ℕ) → p x ≡ q x)
    → ((x : ℕ) → T (p x) → Memᴰ x l) → ((x : ℕ) → T (q x) → Memᴰ x m) → Alike (keep p l) (keep q m)
alike_keep p q l m nl nm e il im = record {
  nodup_l = nodup_keep p l nl;
  nodup_m = nodup_keep q m nm;
  to = λ x k. let t : T (q x) = rw (← e x) (keep_mem p l k).1 in mem_keep q m (im x t) t;
  back = λ x k. let t : T (p x) = rw (e x) (keep_mem q m k).1 in mem_keep p l (il x t) t;
}

-- what is kept of two alike lists
pub alike_both : (p q : ℕ → Bool) (l m : List ℕ) → Alike l m → ((x : ℕ) → p x ≡ q x) → Alike (keep p l) (keep q m)
alike_both p q l m h e = record {
  nodup_l = nodup_keep p l h.nodup_l;
  nodup_m = nodup_keep q m h.nodup_m;
  to = λ x k. let t = keep_mem p l k in mem_keep q m (h.to x t.0) (rw (← e x) t.1);
  back = λ x k. let t = keep_mem q m k in mem_keep p l (h.back x t.0) (rw (e x) t.1);
}

pub alike_length : (l m : List ℕ) → Alike l m → length l ≡ length m
alike_length l m h = omega (arith, pigeons l m h.nodup_l h.to, pigeons m l h.nodup_m h.back)

pub alike_all : (p : ℕ → Bool) (l m : List ℕ) → Alike l m → all p l ≡ all p m
alike_all p l m h = T_iff (all p l) (all p m)
    (λ t. mem_all p m (λ x k. all_mem p l t (h.back x k)))
    (λ t. mem_all p l (λ x k. all_mem p m t (h.to x k)))

-- two members of a list of which another list has at most one
two_in_one : {x y z : ℕ} → Memᴰ x (z ∷ []) → Memᴰ y (z ∷ []) → x ≡ y
two_in_one m n = Memᴰ.eq_of_singleton m ∙ sym (Memᴰ.eq_of_singleton n)

pub alike_only : (l m : List ℕ) → Alike l m → only l ≡ only m
unfolding only
alike_only [] [] h = refl
alike_only [] (y ∷ m) h = absurd (Memᴰ.not-nil (h.back y (Memᴰ.head refl)))
alike_only (x ∷ l) [] h = absurd (Memᴰ.not-nil (h.to x (Memᴰ.head refl)))
alike_only (x ∷ []) (y ∷ []) h = ap one (Memᴰ.eq_of_singleton (h.to x (Memᴰ.head refl)))
alike_only (x ∷ []) (y ∷ z ∷ m) h =
    absurd (h.nodup_m.0 (Memᴰ.head (two_in_one (h.back y (Memᴰ.head refl)) (h.back z (Memᴰ.tail (Memᴰ.head refl))))))
alike_only (x ∷ y ∷ l) (z ∷ []) h =
    absurd (h.nodup_l.0 (Memᴰ.head (two_in_one (h.to x (Memᴰ.head refl)) (h.to y (Memᴰ.tail (Memᴰ.head refl))))))
alike_only (x ∷ y ∷ l) (z ∷ w ∷ m) h = refl

-- a list with a known member: that one, or several
pub only_mem : {A : Type 0} (l : List A) (a : A) → Memᴰ a l → only l ≡ cond (leb 2 (length l)) several (one a)
unfolding only
only_mem [] a m = absurd (Memᴰ.not-nil m)
only_mem (b ∷ []) a m = ap one (sym (Memᴰ.eq_of_singleton m))
only_mem (b ∷ c ∷ l) a m = rw (T→true {b = leb 2 (length (b ∷ c ∷ l))} (le→leb 2 (length (b ∷ c ∷ l)) (omega arith)))
