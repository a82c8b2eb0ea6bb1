-- Which record counts, told by membership: it does not turn on the order of the records.
use Rattle.std.proofs.Math.Path.{◌≡◌, refl}
use Rattle.std.proofs.Common.{sym, ap, ◌∙◌, ⊎_elim}
use Rattle.std.specs.Prelude.{◌⊎◌, ◌≢◌, Bool, ◌&&◌, ℕ, ◌≤◌, ◌<◌, length}
use Rattle.std.proofs.Math.Logic.{inl, inr}
use Rattle.std.proofs.Math.Bool.{true, false, cond}
use Rattle.std.proofs.Math.Option.{Option, none, some}
use mathlib.Core.List.Memᴰ
use mathlib.Core.List.{List, [], ◌∷◌, map, Memᴰ}
use native.Mathlib.Omega.{arith}
use Rattle.std.proofs.Math.Decide.{ℕ_discrete}
use Rattle.std.proofs.Math.Dec.{T, eqb, ltb, eqb→eq, eqb_refl, ltb→lt, nltb→le}
use Rattle.volume.specs.View.{View}
use Rattle.volume.specs.Counting.{versions, newest, counting, ids_of, agree, all_agree}
use Rattle.volume_laws.specs.Tests.{true→T, eqb_self}
use Rattle.volume_laws.specs.Lists.{keep_mem, mem_keep, all_mem, mem_all}
use Rattle.volume_laws.specs.Once.{Nodup, once_nodup, once_mem, mem_once, pigeons}

module _ {A : Type 0} (F : View A) where
  -- Check 6, for records that are equal when their bytes are.
  abbrev pub Agree : List A → Type 0
  Agree rs = (r s : A) → Memᴰ r rs → Memᴰ s rs → F.id r ≡ F.id s → F.sequence r ≡ F.sequence s → r ≡ s

  both_same : {r s : A} → T (agree F r s) → F.id r ≡ F.id s → F.sequence r ≡ F.sequence s → T (F.same r s)
  unfolding agree
  both_same {r} {s} t p q = rw (p, q, eqb_self (F.id s), eqb_self (F.sequence s)) at t

  -- it is what the test finds
  pub agree_test : ((r s : A) → T (F.same r s) → r ≡ s) → (rs : List A) → T (all_agree F rs) → Agree rs
  unfolding all_agree
  agree_test eq rs t r s m n p q = eq r s (both_same (all_mem (agree F r) rs (all_mem _ rs t m) n) p q)

  agree_one : (r s : A) → (F.id r ≡ F.id s → F.sequence r ≡ F.sequence s → T (F.same r s)) → T (agree F r s)
  unfolding agree
  agree_one r s h = go (eqb (F.id r) (F.id s)) refl (eqb (F.sequence r) (F.sequence s)) refl
    where
      go : (a : Bool) → eqb (F.id r) (F.id s) ≡ a → (b : Bool) → eqb (F.sequence r) (F.sequence s) ≡ b → T (cond (a && b) (F.same r s) true)
      go true p true q = h (eqb→eq _ _ (true→T p)) (eqb→eq _ _ (true→T q))
      go true p false q = tt
      go false p b q = tt

  pub test_agree : ((r : A) → T (F.same r r)) → (rs : List A) → Agree rs → T (all_agree F rs)
  unfolding all_agree
  test_agree re rs h = mem_all _ rs (λ r m. mem_all (agree F r) rs (λ s n. agree_one r s (λ p q. rw (h r s m n p q) (re s))))

  -- fewer records agree too
  pub agree_sub : (rs ss : List A) → ((r : A) → Memᴰ r ss → Memᴰ r rs) → Agree rs → Agree ss
  agree_sub rs ss sub h r s m n = h r s (sub r m) (sub s n)

  -- The newest of some records is one of them.
  newest_mem : (l : List A) (r : A) → newest F l ≡ some r → Memᴰ r l
  unfolding newest
  newest_mem [] r e = let z : ◌≡◌ {A = ℕ} 0 1 = cc in absurd (omega arith)
  newest_mem (s ∷ l) r e = go (newest F l) refl (λ t. newest_mem l t)
    where
      pick : (t : A) (b : Bool) → cond b (some t) (some s) ≡ some r → (t ≡ r) ⊎ (s ≡ r)
      pick t true q = inl cc
      pick t false q = inr cc

      which : (t : A) → Memᴰ t l → (t ≡ r) ⊎ (s ≡ r) → Memᴰ r (s ∷ l)
      which t m (inl q) = Memᴰ.tail (rw q at m)
      which t m (inr q) = Memᴰ.head (sym q)

      go : (o : Option A) → newest F l ≡ o → ((t : A) → newest F l ≡ some t → Memᴰ t l) → Memᴰ r (s ∷ l)
      go none q ih = let z : ◌≡◌ {A = Option A} (some s) (some r) = rw (newest, q) at e in let w : r ≡ s = cc in Memᴰ.head w
      go (some t) q ih = which t (ih t q) (pick t (ltb (F.sequence s) (F.sequence t)) (rw (newest, q) at e))

  newest_empty : (l : List A) → newest F l ≡ none → (s : A) → ¬ Memᴰ s l
  unfolding newest
  newest_empty [] q s n = Memᴰ.not-nil n
  newest_empty (y ∷ l) q s n = over (newest F l) refl
    where
      two : (t : A) (b : Bool) → cond b (some t) (some y) ≡ none → ⊥
      two t true z = let w : ◌≡◌ {A = ℕ} 0 1 = cc in omega arith
      two t false z = let w : ◌≡◌ {A = ℕ} 0 1 = cc in omega arith

      over : (o : Option A) → newest F l ≡ o → ⊥
      over none p = let w : ◌≡◌ {A = Option A} (some y) none = rw (newest, p) at q in let z : ◌≡◌ {A = ℕ} 0 1 = cc in omega arith
      over (some t) p = two t (ltb (F.sequence y) (F.sequence t)) (rw (newest, p) at q)

  newest_top : (l : List A) (r : A) → newest F l ≡ some r → (s : A) → Memᴰ s l → F.sequence s ≤ F.sequence r
  unfolding newest
  newest_top [] r e s m = absurd (Memᴰ.not-nil m)
  newest_top (x ∷ l) r e s m = go (newest F l) refl (λ t q. newest_top l t q)
    where
      pick : (t : A) → ((s : A) → Memᴰ s l → F.sequence s ≤ F.sequence t) → (b : Bool) → ltb (F.sequence x) (F.sequence t) ≡ b
          → cond b (some t) (some x) ≡ some r → F.sequence s ≤ F.sequence r
      pick t h true p q =
          let w : t ≡ r = cc in
          let u = ltb→lt (F.sequence x) (F.sequence t) (true→T p) in
          rw (← w) (⊎_elim (λ z. rw z (omega arith)) (h s) (Memᴰ.cases_cons m))
      pick t h false p q =
          let w : x ≡ r = cc in
          let u = nltb→le (F.sequence x) (F.sequence t) (rw p tt) in
          rw (← w) (⊎_elim (λ z. rw z (omega arith)) (λ n. omega (arith, h s n)) (Memᴰ.cases_cons m))

      go : (o : Option A) → newest F l ≡ o → ((t : A) → newest F l ≡ some t → (s : A) → Memᴰ s l → F.sequence s ≤ F.sequence t)
          → F.sequence s ≤ F.sequence r
      go none q ih =
          let z : ◌≡◌ {A = Option A} (some x) (some r) = rw (newest, q) at e in
          let w : x ≡ r = cc in
          rw (← w) (⊎_elim (λ z. rw z (omega arith)) (λ n. absurd (newest_empty l q s n)) (Memᴰ.cases_cons m))
      go (some t) q ih = pick t (ih t q) (ltb (F.sequence x) (F.sequence t)) refl (rw (newest, q) at e)

  version : {i : ℕ} {rs : List A} {s : A} → Memᴰ s rs → F.id s ≡ i → Memᴰ s (versions F i rs)
  unfolding versions
  version {i} {rs} {s} m e = mem_keep (λ r. eqb (F.id r) i) rs m (rw e (eqb_refl i))

  -- the record that counts is one of the records, and of that id
  pub counting_mem : (rs : List A) (i : ℕ) (r : A) → counting F rs i ≡ some r → Memᴰ r rs × (F.id r ≡ i)
  unfolding counting versions
  counting_mem rs i r e = let m = keep_mem _ rs (newest_mem (versions F i rs) r e) in (m.0, eqb→eq (F.id r) i m.1)

  -- no record of the id where none counts
  pub counting_none : (rs : List A) (i : ℕ) → counting F rs i ≡ none → (s : A) → Memᴰ s rs → F.id s ≢ i
  unfolding counting
  counting_none rs i e s m q = newest_empty (versions F i rs) e s (version m q)

  -- none of a greater sequence
  pub counting_top : (rs : List A) (i : ℕ) (r : A) → counting F rs i ≡ some r
      → (s : A) → Memᴰ s rs → F.id s ≡ i → F.sequence s ≤ F.sequence r
  unfolding counting
  counting_top rs i r e s m q = newest_top (versions F i rs) r e s (version m q)

  -- where there is a record of the id, one counts
  pub counting_some : (rs : List A) (s : A) → Memᴰ s rs → (r : A) × (counting F rs (F.id s) ≡ some r)
  counting_some rs s m = go (counting F rs (F.id s)) refl
    where
      go : (o : Option A) → counting F rs (F.id s) ≡ o → (r : A) × (counting F rs (F.id s) ≡ some r)
      go none e = absurd (counting_none rs (F.id s) e s m refl)
      go (some r) e = (r, e)

  -- where there is none, none counts
  pub counting_absent : (rs : List A) (i : ℕ) → ((s : A) → Memᴰ s rs → F.id s ≢ i) → counting F rs i ≡ none
  counting_absent rs i h = go (counting F rs i) refl
    where
      go : (o : Option A) → counting F rs i ≡ o → counting F rs i ≡ none
      go none e = e
      go (some r) e = let m = counting_mem rs i r e in absurd (h r m.0 m.1)

  -- a record that has no rival counts
  pub counting_is : (rs : List A) (r : A) → Memᴰ r rs
      → ((s : A) → Memᴰ s rs → F.id s ≡ F.id r → (s ≡ r) ⊎ (F.sequence s < F.sequence r)) → counting F rs (F.id r) ≡ some r
  counting_is rs r m h =
      let t = counting_some rs r m in
      let k = counting_mem rs (F.id r) t.0 t.1 in
      let u = counting_top rs (F.id r) t.0 t.1 r m refl in
      t.1 ∙ ap some (⊎_elim (λ e. e) (λ l. absurd (omega arith)) (h t.0 k.0 k.1))

  -- fewer records, the one that counted among them: it counts still
  pub counting_sub : (rs ss : List A) → Agree rs → ((r : A) → Memᴰ r ss → Memᴰ r rs)
      → (i : ℕ) (r : A) → counting F rs i ≡ some r → Memᴰ r ss → counting F ss i ≡ some r
  counting_sub rs ss ag sub i r e m = rw (← k.1) (counting_is ss r m (λ s n q. go s n q (less s n q)))
    where
      k : Memᴰ r rs × (F.id r ≡ i)
      k = counting_mem rs i r e

      less : (s : A) → Memᴰ s ss → F.id s ≡ F.id r → F.sequence s ≤ F.sequence r
      less s n q = counting_top rs i r e s (sub s n) (q ∙ k.1)

      go : (s : A) → Memᴰ s ss → F.id s ≡ F.id r → F.sequence s ≤ F.sequence r → (s ≡ r) ⊎ (F.sequence s < F.sequence r)
      go s n q l = at (ℕ_discrete (F.sequence s) (F.sequence r))
        where
          at : Dec (F.sequence s ≡ F.sequence r) → (s ≡ r) ⊎ (F.sequence s < F.sequence r)
          at (yes z) = inl (ag s r (sub s n) k.0 q z)
          at (no z) = inr (omega arith)

  -- "A version is any record of an id": every version of j among rs is among ss too
  abbrev pub Retained : List A → List A → ℕ → Type 0
  Retained rs ss j = (r : A) → Memᴰ r rs → F.id r ≡ j → Memᴰ r ss

  -- fewer records, all versions of an id among them: the same one counts
  pub counting_retained : (rs ss : List A) → Agree rs → ((r : A) → Memᴰ r ss → Memᴰ r rs)
      → (j : ℕ) → Retained rs ss j → counting F ss j ≡ counting F rs j
  counting_retained rs ss ag sub j h = go (counting F rs j) refl
    where
      go : (o : Option A) → counting F rs j ≡ o → counting F ss j ≡ counting F rs j
      go none e = counting_absent ss j (λ s m. counting_none rs j e s (sub s m)) ∙ sym e
      go (some r) e = let m = counting_mem rs j r e in counting_sub rs ss ag sub j r e (h r m.0 m.1) ∙ sym e

  -- a list holds, each once, all ids for which a record counts
  pub record Ids (c : ℕ → Option A) (l : List ℕ) : Type 0 where
    pub nodup : Nodup l
    pub each : (i : ℕ) (r : A) → c i ≡ some r → Memᴰ i l

  pub ids_mem : (rs : List A) (i : ℕ) → Memᴰ i (ids_of F rs) → (r : A) × Memᴰ r rs × (F.id r ≡ i)
  unfolding ids_of
  ids_mem rs i m = Memᴰ.of_map F.id rs (once_mem (map F.id rs) m)

  pub mem_ids : (rs : List A) (r : A) → Memᴰ r rs → Memᴰ (F.id r) (ids_of F rs)
  unfolding ids_of
  mem_ids rs r m = mem_once (map F.id rs) (F.id r) (Memᴰ.map F.id m)

  -- the ids of some records are such a list
  pub ids_of_lem : (rs : List A) → Ids (counting F rs) (ids_of F rs)
  unfolding ids_of
  ids_of_lem rs = record {
    nodup = once_nodup (map F.id rs);
    each = λ i r e. let m = counting_mem rs i r e in Memᴰ.cast (sym m.1) (mem_ids rs r m.0);
  }

  -- fewer records have no more ids: refusal 5 is no nearer
  pub fewer_ids : (rs ss : List A) → ((r : A) → Memᴰ r ss → Memᴰ r rs) → length (ids_of F ss) ≤ length (ids_of F rs)
  fewer_ids rs ss sub = pigeons (ids_of F ss) (ids_of F rs) (ids_of_lem ss).nodup
      (λ x m. let r = ids_mem ss x m in Memᴰ.cast (sym r.2) (mem_ids rs r.0 (sub r.0 r.1)))
