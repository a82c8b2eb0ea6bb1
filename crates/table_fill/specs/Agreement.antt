-- Check 6, with one record more at the end.
use Rattle.std.specs.Prelude.{ℕ, ◌<◌, ◌≡◌, ◌⊎◌, Bool, ◌&&◌, eqb}
use Rattle.std.proofs.Math.Path.{refl, sym}
use Rattle.std.proofs.Common.{◌∙◌, inl, inr, arith, eqb→eq, eq-eqb}
use Rattle.std.proofs.Math.Bool.{true, false, not}
use mathlib.Core.List.Memᴰ
use mathlib.Core.List.{List, [], ◌∷◌, ◌++◌, map, Memᴰ}
use Rattle.std.proofs.Math.Dec.{T}
use Rattle.format.specs.Bytes.{Bytes}
use Rattle.volume.specs.Lists.{all}
use Rattle.volume.specs.View.{View, by_bytes}
use Rattle.volume.specs.Counting.{volume_of, agree, all_agree}
use Rattle.volume_laws.specs.Tests.{T→true, true→T, T_iff, and_T, T_and}
use Rattle.volume_laws.specs.Lists.{same_refl, same_eq, all_mem, mem_all, mem_keep}
use Rattle.volume_laws.specs.Map.{Views}
use Rattle.volume_laws.specs.Sound.{Sound, kinds_apart}
use Rattle.record_places.specs.Place.{bytes_at, by_place}
use Rattle.record_places.specs.Laws.{place_views}
use Rattle.table_fill.specs.Gather.{twins, SameKind}

-- "different bytes" is told by an equivalence
pub record Equivalence {A : Type 0} (F : View A) : Type 0 where
  pub itself : (r : A) → T (F.same r r)
  pub back : (r s : A) → T (F.same r s) → T (F.same s r)
  pub through : (r s t : A) → T (F.same r s) → T (F.same s t) → T (F.same r t)

pub places_equivalent : (image : Bytes) → Equivalence (by_place image)
places_equivalent image = record {
  itself = λ p. same_refl (bytes_at image p);
  back = λ p q t. rw (same_eq (bytes_at image p) (bytes_at image q) t) (same_refl (bytes_at image q));
  through = λ p q r t u. rw (same_eq (bytes_at image p) (bytes_at image q) t) u;
}

module _ {A : Type 0} (F : View A) where
  -- what it asks of two records
  pub twins_agree : (r s : A) → twins F r s ≡ true → agree F r s ≡ F.same r s
  unfolding agree
  twins_agree r s e = rw e

  pub others_agree : (r s : A) → twins F r s ≡ false → agree F r s ≡ true
  unfolding agree
  others_agree r s e = rw e

  pub twins_are : (r s : A) → twins F r s ≡ true → (F.id r ≡ F.id s) × (F.sequence r ≡ F.sequence s)
  twins_are r s e =
      let t = and_T (eqb (F.id r) (F.id s)) (eqb (F.sequence r) (F.sequence s)) (true→T {b = twins F r s} e) in
      (eqb→eq (F.id r) (F.id s) t.0, eqb→eq (F.sequence r) (F.sequence s) t.1)

  pub are_twins : (r s : A) → F.id r ≡ F.id s → F.sequence r ≡ F.sequence s → twins F r s ≡ true
  are_twins r s p q = rw (eq-eqb (F.id r) (F.id s) p, eq-eqb (F.sequence r) (F.sequence s) q)

  twins_back : (r s : A) → twins F r s ≡ true → twins F s r ≡ true
  twins_back r s e = let t = twins_are r s e in are_twins s r (sym t.0) (sym t.1)

  module _ (eq : Equivalence F) where
    agree_self : (r : A) → T (agree F r r)
    agree_self r = rw (twins_agree r r (are_twins r r refl refl)) (eq.itself r)

    agree_back : (r s : A) → T (agree F r s) → T (agree F s r)
    agree_back r s t = go (twins F s r) refl
      where
        go : (b : Bool) → twins F s r ≡ b → T (agree F s r)
        go true e = rw (twins_agree s r e) (eq.back r s (rw (twins_agree r s (twins_back s r e)) at t))
        go false e = rw (others_agree s r e) tt

    -- it passes for all if it passes for those before, and for the new one against them
    pub all_agree_snoc : (l : List A) (p : A) → all_agree F (l ++ (p ∷ [])) ≡ (all_agree F l && all (agree F p) l)
    unfolding all_agree
    all_agree_snoc l p = T_iff (all_agree F (l ++ (p ∷ []))) (all_agree F l && all (agree F p) l) to from
      where
        two : T (all_agree F (l ++ (p ∷ []))) → (r s : A) → Memᴰ r (l ++ (p ∷ [])) → Memᴰ s (l ++ (p ∷ [])) → T (agree F r s)
        two t r s m n = all_mem (agree F r) (l ++ (p ∷ [])) (all_mem (λ x. all (agree F x) (l ++ (p ∷ []))) (l ++ (p ∷ [])) t m) n

        to : T (all_agree F (l ++ (p ∷ []))) → T (all_agree F l && all (agree F p) l)
        to t =
            T_and (all_agree F l) (all (agree F p) l)
            (mem_all _ l (λ r m. mem_all (agree F r) l (λ s n. two t r s (Memᴰ.append_left (p ∷ []) m) (Memᴰ.append_left (p ∷ []) n))))
            (mem_all (agree F p) l (λ s n. two t p s (Memᴰ.append_right l (Memᴰ.head refl)) (Memᴰ.append_left (p ∷ []) n)))

        from : T (all_agree F l && all (agree F p) l) → T (all_agree F (l ++ (p ∷ [])))
        from t = mem_all _ (l ++ (p ∷ [])) (λ r m. mem_all (agree F r) (l ++ (p ∷ [])) (λ s n. pair r s (Memᴰ.append_cases l m) (Memᴰ.append_cases l n)))
          where
            both : T (all_agree F l) × T (all (agree F p) l)
            both = and_T (all_agree F l) (all (agree F p) l) t

            pair : (r s : A) → Memᴰ r l ⊎ Memᴰ r (p ∷ []) → Memᴰ s l ⊎ Memᴰ s (p ∷ []) → T (agree F r s)
            pair r s (inl m) (inl n) = all_mem (agree F r) l (all_mem (λ x. all (agree F x) l) l both.0 m) n
            pair r s (inl m) (inr n) = rw (Memᴰ.eq_of_singleton n) (agree_back p r (all_mem (agree F p) l both.1 m))
            pair r s (inr m) (inl n) = rw (Memᴰ.eq_of_singleton m) (all_mem (agree F p) l both.1 n)
            pair r s (inr m) (inr n) = rw (Memᴰ.eq_of_singleton m, Memᴰ.eq_of_singleton n) (agree_self p)

    -- once it fails it fails
    pub disagree_more : (l : List A) (p : A) → all_agree F l ≡ false → all_agree F (l ++ (p ∷ [])) ≡ false
    disagree_more l p e = all_agree_snoc l p ∙ rw e

    pub agree_more : (l : List A) (p : A) → all_agree F l ≡ true → all_agree F (l ++ (p ∷ [])) ≡ all (agree F p) l
    agree_more l p e = all_agree_snoc l p ∙ rw e

    -- a sequence greater than all before it of its id has no twin
    pub newer_agrees : (l : List A) (p : A) → ((q : A) → Memᴰ q l → F.id q ≡ F.id p → F.sequence q < F.sequence p)
        → all_agree F (l ++ (p ∷ [])) ≡ all_agree F l
    newer_agrees l p h = all_agree_snoc l p ∙ go (all_agree F l) (T→true {b = all (agree F p) l} (mem_all (agree F p) l (λ q m. one q (h q m) (twins F p q) refl)))
      where
        one : (q : A) → (F.id q ≡ F.id p → F.sequence q < F.sequence p) → (b : Bool) → twins F p q ≡ b → T (agree F p q)
        one q g true e = let t = twins_are p q e in absurd (omega (arith, g (sym t.0), t.1))
        one q g false e = rw (others_agree p q e) tt

        go : (a : Bool) → all (agree F p) l ≡ true → (a && all (agree F p) l) ≡ a
        go true e = e
        go false e = refl

    -- where those before agree, a twin among them speaks for all
    pub twin_decides : (l : List A) (p q : A) → all_agree F l ≡ true → Memᴰ q l → twins F p q ≡ true → all_agree F (l ++ (p ∷ [])) ≡ F.same p q
    unfolding all_agree
    twin_decides l p q a m w = agree_more l p a ∙ T_iff (all (agree F p) l) (F.same p q) to from
      where
        to : T (all (agree F p) l) → T (F.same p q)
        to t = rw (twins_agree p q w) at (all_mem (agree F p) l t m)

        one : T (F.same p q) → (r : A) → T (agree F q r) → (b : Bool) → twins F p r ≡ b → T (agree F p r)
        one t r u true e =
            let x = twins_are p q w in
            let y = twins_are p r e in
            let z = are_twins q r (sym x.0 ∙ y.0) (sym x.1 ∙ y.1) in
            rw (twins_agree p r e) (eq.through p q r t (rw (twins_agree q r z) at u))
        one t r u false e = rw (others_agree p r e) tt

        from : T (F.same p q) → T (all (agree F p) l)
        from t = mem_all (agree F p) l (λ r n.
            one t r (all_mem (agree F q) l (all_mem (λ x. all (agree F x) l) l (true→T {b = all_agree F l} a) m) n) (twins F p r) refl)

  -- Acceptable records of one id are of one kind
  pub sound_kinds : (rs : List A) → Sound F (volume_of F rs) → SameKind F rs
  unfolding volume_of
  sound_kinds rs s r t m n e = go (F.is_block r) refl (F.is_block t) refl
    where
      go : (a : Bool) → F.is_block r ≡ a → (b : Bool) → F.is_block t ≡ b → F.is_block r ≡ F.is_block t
      go true p true q = p ∙ sym q
      go false p false q = p ∙ sym q
      go true p false q =
          absurd (kinds_apart F (volume_of F rs) s t r (mem_keep (λ x. not (F.is_block x)) rs n (rw q tt)) (mem_keep F.is_block rs m (rw p tt)) (sym e))
      go false p true q =
          absurd (kinds_apart F (volume_of F rs) s r t (mem_keep (λ x. not (F.is_block x)) rs m (rw p tt)) (mem_keep F.is_block rs n (rw q tt)) e)

-- and so it is in another view of them
pub kinds_over : {A B : Type 0} (F : View A) (G : View B) (f : A → B) → Views F G f → (rs : List A) → SameKind G (map f rs) → SameKind F rs
kinds_over F G f w rs h r s m n e =
    sym (w.is_block r) ∙ h (f r) (f s) (Memᴰ.map f m) (Memᴰ.map f n) (w.id r ∙ e ∙ sym (w.id s)) ∙ w.is_block s

-- so the places of acceptable records may be gathered
pub sound_places : (image : Bytes) (ps : List ℕ) → Sound by_bytes (volume_of by_bytes (map (bytes_at image) ps)) → SameKind (by_place image) ps
sound_places image ps s =
    kinds_over (by_place image) by_bytes (bytes_at image) (place_views image) ps (sound_kinds by_bytes (map (bytes_at image) ps) s)
