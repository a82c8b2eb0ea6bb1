-- One record more at the end: the ids, and the record that counts.
use Rattle.std.specs.Prelude.{ℕ, ◌≡◌, ◌≢◌, Bool, true, false, cond, not, T, eqb, ltb}
use Rattle.std.proofs.Math.Path.{refl, ap}
use Rattle.std.proofs.Common.{sym, ◌∙◌, arith}
use Rattle.std.proofs.Math.Option.{Option, none, some}
use mathlib.Core.List.Memᴰ
use mathlib.Core.List.{List, [], ◌∷◌, ◌++◌, map, append-nil, Memᴰ}
use borrow.Author.Tests.{eq-eqb, ne_eqb, lt-ltb, le-ltb, ltb-true, ltb-false, eqb-true, eqb-false}
use Rattle.volume.specs.Lists.{keep, all, once}
use Rattle.volume.specs.View.{View}
use Rattle.volume.specs.Counting.{versions, newest, counting, ids_of}
use Rattle.volume_laws.specs.Tests.{T→true, not_T→false, T_other, not_self}
use Rattle.volume_laws.specs.Lists.{keep_append, all_mem, mem_all}
use Rattle.volume_laws.specs.Counting.{counting_mem, counting_none}

-- ---- numbers, each once

-- x is none of the numbers
abbrev is_new : ℕ → List ℕ → Bool
is_new x l = all (λ y. not (eqb y x)) l

once_snoc : (x : ℕ) (l : List ℕ) → once (l ++ (x ∷ [])) ≡ cond (is_new x l) (once l ++ (x ∷ [])) (once l)
unfolding once all keep
once_snoc x [] = refl
once_snoc x (y ∷ l) = go (eqb y x) refl (is_new x l) refl (once_snoc x l)
  where
    go : (a : Bool) → eqb y x ≡ a → (b : Bool) → is_new x l ≡ b → once (l ++ (x ∷ [])) ≡ cond (is_new x l) (once l ++ (x ∷ [])) (once l)
        → once ((y ∷ l) ++ (x ∷ [])) ≡ cond (is_new x (y ∷ l)) (once (y ∷ l) ++ (x ∷ [])) (once (y ∷ l))
    go true e true f ih = rw (once, all, ih, f, e, keep_append (λ z. not (eqb z y)) (once l) (x ∷ []), keep, eq-eqb x y (sym (eqb-true y x e)), append-nil)
    go true e false f ih = rw (once, all, ih, f, e)
    go false e true f ih = rw (once, all, ih, f, e, keep_append (λ z. not (eqb z y)) (once l) (x ∷ []), keep, ne_eqb x y (λ q. eqb-false y x e (sym q)))
    go false e false f ih = rw (once, all, ih, f, e)

-- ---- records

map_snoc : {A : Type 0} (f : A → ℕ) (l : List A) (r : A) → map f (l ++ (r ∷ [])) ≡ map f l ++ (f r ∷ [])
map_snoc f [] r = refl
map_snoc f (x ∷ l) r = ap (λ (m : List ℕ). f x ∷ m) (map_snoc f l r)

module _ {A : Type 0} (F : View A) where
  ids_snoc : (rs : List A) (r : A) → ids_of F (rs ++ (r ∷ [])) ≡ cond (is_new (F.id r) (map F.id rs)) (ids_of F rs ++ (F.id r ∷ [])) (ids_of F rs)
  unfolding ids_of
  ids_snoc rs r = rw (map_snoc F.id rs r) (once_snoc (F.id r) (map F.id rs))

  -- an id that was seen already, and one that was not
  pub ids_old : (rs : List A) (r s : A) → counting F rs (F.id r) ≡ some s → ids_of F (rs ++ (r ∷ [])) ≡ ids_of F rs
  ids_old rs r s e = ids_snoc rs r ∙ rw (not_T→false {b = is_new (F.id r) (map F.id rs)} seen)
    where
      seen : ¬ T (is_new (F.id r) (map F.id rs))
      seen t =
          let m = counting_mem F rs (F.id r) s e in
          not_self (F.id r) (rw m.1 at (all_mem (λ y. not (eqb y (F.id r))) (map F.id rs) t (Memᴰ.map F.id m.0)))

  pub ids_new : (rs : List A) (r : A) → counting F rs (F.id r) ≡ none → ids_of F (rs ++ (r ∷ [])) ≡ ids_of F rs ++ (F.id r ∷ [])
  ids_new rs r e = ids_snoc rs r ∙ rw (T→true {b = is_new (F.id r) (map F.id rs)} (mem_all (λ y. not (eqb y (F.id r))) (map F.id rs) other))
    where
      other : (i : ℕ) → Memᴰ i (map F.id rs) → T (not (eqb i (F.id r)))
      other i m = T_other i (F.id r) (λ q. let s = Memᴰ.of_map F.id rs m in counting_none F rs (F.id r) e s.0 s.1 (s.2 ∙ q))

  -- of a record that counts and one after it, the later counts if its sequence is greater
  abbrev pub later : Option A → A → Option A
  later none r = some r
  later (some s) r = cond (ltb (F.sequence s) (F.sequence r)) (some r) (some s)

  -- and of one before them, as `newest` puts it
  abbrev earlier : A → Option A → Option A
  earlier r none = some r
  earlier r (some s) = cond (ltb (F.sequence r) (F.sequence s)) (some s) (some r)

  swap : (r p : A) (o : Option A) → earlier r (later o p) ≡ later (earlier r o) p
  swap r p none = refl
  swap r p (some s) = go (ltb (F.sequence s) (F.sequence p)) refl (ltb (F.sequence r) (F.sequence s)) refl
    where
      go : (a : Bool) → ltb (F.sequence s) (F.sequence p) ≡ a → (b : Bool) → ltb (F.sequence r) (F.sequence s) ≡ b
          → earlier r (cond a (some p) (some s)) ≡ later (cond b (some s) (some r)) p
      go true x true y =
          let h = lt-ltb (F.sequence r) (F.sequence p) (omega (arith, ltb-true (F.sequence s) (F.sequence p) x, ltb-true (F.sequence r) (F.sequence s) y)) in
          rw (h, x)
      go true x false y = refl
      go false x true y = rw (y, x)
      go false x false y =
          let h = le-ltb (F.sequence r) (F.sequence p) (omega (arith, ltb-false (F.sequence s) (F.sequence p) x, ltb-false (F.sequence r) (F.sequence s) y)) in
          rw (y, h)

  newest_cons : (r : A) (l : List A) → newest F (r ∷ l) ≡ earlier r (newest F l)
  unfolding newest
  newest_cons r l = go (newest F l) refl
    where
      go : (o : Option A) → newest F l ≡ o → newest F (r ∷ l) ≡ earlier r (newest F l)
      go none e = rw (newest, e)
      go (some s) e = rw (newest, e)

  newest_snoc : (l : List A) (p : A) → newest F (l ++ (p ∷ [])) ≡ later (newest F l) p
  unfolding newest
  newest_snoc [] p = refl
  newest_snoc (r ∷ l) p =
      newest_cons r (l ++ (p ∷ []))
      ∙ ap (earlier r) (newest_snoc l p)
      ∙ swap r p (newest F l)
      ∙ ap (λ (o : Option A). later o p) (sym (newest_cons r l))

  pub counting_same : (rs : List A) (p : A) (i : ℕ) → F.id p ≡ i → counting F (rs ++ (p ∷ [])) i ≡ later (counting F rs i) p
  unfolding counting versions keep
  counting_same rs p i e = rw (keep_append, eq-eqb (F.id p) i e) (newest_snoc (versions F i rs) p)

  pub counting_other : (rs : List A) (p : A) (i : ℕ) → F.id p ≢ i → counting F (rs ++ (p ∷ [])) i ≡ counting F rs i
  unfolding counting versions keep
  counting_other rs p i e = rw (keep_append, ne_eqb (F.id p) i e, append-nil)
