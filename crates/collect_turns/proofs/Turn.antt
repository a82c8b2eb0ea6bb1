-- One collection: it takes a least area, and tallies stay as near as they were.
use Rattle.std.specs.Prelude.{ℕ, ◌+◌, ◌%◌, ◌≤◌, ◌<◌, ◌≡◌, refl, ◌⊎◌, ◌≢◌, ◌↔◌, true, false, T, eqb, ltb}
use Rattle.std.proofs.Math.Path.{sym, ap}
use Rattle.std.proofs.Common.{◌∙◌, inl, inr, ⊎_elim, arith, eqb→eq, ltb-false, ltb-true}
use mathlib.Core.List.Memᴰ
use mathlib.Core.List.{List, [], ◌∷◌, Memᴰ}
use Rattle.std.proofs.Math.Decide.{dec_le}
use Rattle.std.proofs.Math.Dec.{eqb_refl}
use Rattle.format.specs.Bytes.{Bytes}
use Rattle.volume_laws.specs.Tests.{T→true, not_T→false, and_T, T_and}
use Rattle.calls.specs.Areas.{area_bytes, file_areas}
use Rattle.calls.specs.Collect.{eligible, count_of, precedes, next_count}
use Rattle.calls.specs.declared.Descriptor.{Descriptor}
use Rattle.calls.specs.Format.{empty_area}
use Rattle.format.specs.AreaHeader.{collection_count, scratch_id}
use Rattle.format_laws.specs.Encoding.{header_count}
use Rattle.collect_laws.proofs.Mounted.{scratch_is, file_is}
use Rattle.demand2_collect.specs.Image.{not_both}
use Rattle.collect_laws.specs.Source.{Leads, Preceded, IsSource}
use Rattle.collect_laws.proofs.Source.{eligible_file, file_eligible}
use Rattle.demand2.proofs.Store.{same_area}
use Rattle.demand2_collect.specs.Collect.{AfterCollect}
use Rattle.collect_turns.specs.Words.{TakesTurns, is_same_area, InOrder, FirstLeast}
use Rattle.collect_turns.proofs.Order.{precedes_is}
use Rattle.collect_turns.specs.Turn.{raised}

-- ---- the least of some areas

least_of : (tally : Descriptor → ℕ) (es : List Descriptor) (d : Descriptor) → Memᴰ d es
    → (m : Descriptor) × Memᴰ m es × ((e : Descriptor) → Memᴰ e es → tally m ≤ tally e)
least_of tally [] d k = absurd (Memᴰ.not-nil k)
least_of tally (x ∷ []) d k = (x, Memᴰ.head refl, λ e n. ⊎_elim (λ z. rw z (omega arith)) (λ n. absurd (Memᴰ.not-nil n)) (Memᴰ.cases_cons n))
least_of tally (x ∷ y ∷ es) d k = go (least_of tally (y ∷ es) y (Memᴰ.head refl))
  where
    go : (m : Descriptor) × Memᴰ m (y ∷ es) × ((e : Descriptor) → Memᴰ e (y ∷ es) → tally m ≤ tally e)
        → (m : Descriptor) × Memᴰ m (x ∷ y ∷ es) × ((e : Descriptor) → Memᴰ e (x ∷ y ∷ es) → tally m ≤ tally e)
    go r = at (dec_le (tally x) (tally r.0))
      where
        at : Dec (tally x ≤ tally r.0)
            → (m : Descriptor) × Memᴰ m (x ∷ y ∷ es) × ((e : Descriptor) → Memᴰ e (x ∷ y ∷ es) → tally m ≤ tally e)
        at (yes l) = (x, Memᴰ.head refl, λ e n. ⊎_elim (λ z. rw z (omega arith)) (λ n. omega (arith, r.2 e n)) (Memᴰ.cases_cons n))
        at (no l) = (r.0, Memᴰ.tail r.1, λ e n. ⊎_elim (λ z. rw z (omega arith)) (r.2 e) (Memᴰ.cases_cons n))

-- eligible areas es whose tallies lie within 127 of each other
module _ (image : Bytes) (es : List Descriptor) (tally : Descriptor → ℕ)
    (counts : (d : Descriptor) → Memᴰ d es → tally d % 256 ≡ count_of image d)
    (close : (d e : Descriptor) → Memᴰ d es → Memᴰ e es → tally d ≤ tally e + 127) where
  by_tally : (d e : Descriptor) → Memᴰ d es → Memᴰ e es → precedes (count_of image d) (count_of image e) ≡ ltb (tally d) (tally e)
  by_tally d e m n = rw (← counts d m, ← counts e n) (precedes_is (tally d) (tally e) (close d e m n) (close e d n m))

  -- the source is the first of the least: the other case of the rule, that each is preceded, does not arise
  pub source_least : (s : Descriptor) → IsSource image es s → FirstLeast tally es s
  source_least s c = ⊎_elim (λ l. leads l.0 l.1) (λ p. absurd (all_preceded p.0)) c.chosen
    where
      there : Memᴰ s es
      there = rw c.split (Memᴰ.append_right c.before (Memᴰ.head refl))

      less : (d : Descriptor) → Memᴰ d es → (p : Preceded image es d) → tally p.0 < tally d
      less d m p = ltb-true (tally p.0) (tally d) (sym (by_tally p.0 d p.1 m) ∙ p.2)

      leads : Leads image es s → ((d : Descriptor) → Memᴰ d c.before → Preceded image es d) → FirstLeast tally es s
      leads l passed =
          let least : (d : Descriptor) → Memᴰ d es → tally s ≤ tally d = λ d m. ltb-false (tally d) (tally s) (sym (by_tally d s m there) ∙ l d m) in
          record {
            before = c.before;
            behind = c.behind;
            split = c.split;
            least = least;
            first = λ d m.
                let p = passed d m in
                omega (arith, less d (rw c.split (Memᴰ.append_left (s ∷ c.behind) m)) p, least p.0 p.1);
          }

      all_preceded : ((d : Descriptor) → Memᴰ d es → Preceded image es d) → ⊥
      all_preceded p = let m = least_of tally es s there in let q = p m.0 m.1 in omega (arith, less m.0 m.1 q, m.2 q.0 q.1)

-- ---- one area more often collected

pub same_self : (d : Descriptor) → is_same_area d d ≡ true
same_self d = T→true (T_and (eqb d.offset d.offset) (eqb d.length d.length) (eqb_refl d.offset) (eqb_refl d.length))

same_is : (d e : Descriptor) → T (is_same_area d e) → d ≡ e
same_is d e t =
    let p = and_T (eqb d.offset e.offset) (eqb d.length e.length) t in
    let o = eqb→eq d.offset e.offset p.0 in
    let n = eqb→eq d.length e.length p.1 in
    λ i. record { offset = o i; length = n i }

pub other_area : (d e : Descriptor) → d ≢ e → is_same_area d e ≡ false
other_area d e n = not_T→false (λ t. n (same_is d e t))

raised_source : (s : Descriptor) (tally : Descriptor → ℕ) → raised s tally s ≡ tally s + 1
raised_source s tally = rw (same_self s)

raised_other : (s : Descriptor) (tally : Descriptor → ℕ) (d : Descriptor) → d ≢ s → raised s tally d ≡ tally d
raised_other s tally d n = rw (other_area d s n) (omega arith)

-- ---- a collection

module _ (image image' : Bytes) (ds : List Descriptor) (a : AfterCollect image image' ds) where
  abbrev t : Descriptor
  t = a.scratch

  abbrev s : Descriptor
  s = a.source

  abbrev es : List Descriptor
  es = eligible (file_areas image ds) t

  abbrev es' : List Descriptor
  es' = eligible (file_areas image' ds) s

  source_there : Memᴰ s es
  source_there = file_eligible (file_areas image ds) t a.was_file a.as_long

  -- the file areas as long as the new scratch, s: the former scratch, and those that were, s apart
  others : (d : Descriptor) → Memᴰ d es' → (d ≡ t) ⊎ (Memᴰ d es × (d ≢ s))
  others d m =
      let f = eligible_file (file_areas image' ds) s m in
      ⊎_elim inl (λ k. inr (file_eligible (file_areas image ds) t k.0 (f.1 ∙ a.as_long), k.1)) ((a.files d).0 f.0)

  stays : (d : Descriptor) → Memᴰ d es → d ≢ s → Memᴰ d es'
  stays d m n =
      let f = eligible_file (file_areas image ds) t m in
      file_eligible (file_areas image' ds) s ((a.files d).1 (inr (f.0, n))) (f.1 ∙ sym a.as_long)

  scratch_joins : Memᴰ t es'
  scratch_joins = file_eligible (file_areas image' ds) s a.now_file (sym a.as_long)

  -- the same areas take turns
  pub turns_kept : (d : Descriptor) → TakesTurns image ds t d ↔ TakesTurns image' ds s d
  turns_kept d = (on (same_area d s), back)
    where
      on : Dec (d ≡ s) → TakesTurns image ds t d → TakesTurns image' ds s d
      on q (inl e) = inr (rw e scratch_joins)
      on (yes e) (inr m) = inl e
      on (no n) (inr m) = inr (stays d m n)

      back : TakesTurns image' ds s d → TakesTurns image ds t d
      back (inl e) = inr (rw e source_there)
      back (inr m) = ⊎_elim inl (λ k. inr k.0) (others d m)

  -- an area is not both a file area and scratch
  apart : (d : Descriptor) → Memᴰ d (file_areas image ds) → d ≢ t
  apart d m e = not_both t.length (area_bytes image t) (rw e at (file_is image ds d m).1) (scratch_is image ds t a.was_scratch).1

  pub joined : t ≢ s
  joined e = apart s a.was_file (sym e)

  count_raised : count_of image' s ≡ next_count (count_of image s)
  unfolding empty_area
  count_raised = ap collection_count a.emptied ∙ header_count s.length (next_count (count_of image s)) scratch_id _

  module _ (tally : Descriptor → ℕ) (p : InOrder tally image ds t) where
    pub least : FirstLeast tally es s
    least = source_least image es tally (λ d m. p.counts d (inr m)) p.close s a.is_source

    raised_counts : (d : Descriptor) → TakesTurns image' ds s d → raised s tally d % 256 ≡ count_of image' d
    unfolding next_count
    raised_counts d (inl e) =
        let c = p.counts s (inr source_there) in
        rw (e, raised_source s tally, count_raised, ← c) (omega arith)
    raised_counts d (inr m) = go (others d m)
      where
        go : (d ≡ t) ⊎ (Memᴰ d es × (d ≢ s)) → raised s tally d % 256 ≡ count_of image' d
        go (inl e) = rw (e, raised_other s tally t joined) (p.counts t (inl refl) ∙ sym a.keeps_count)
        go (inr (n, q)) =
            let f = eligible_file (file_areas image ds) t n in
            ap (λ (n : ℕ). n % 256) (raised_other s tally d q) ∙ p.counts d (inr n)
            ∙ sym (ap collection_count (a.elsewhere d (file_is image ds d f.0).0 (apart d f.0) q))

    pub turn : InOrder (raised s tally) image' ds s
    turn = record {
      one_scratch = a.now_scratch;
      counts = raised_counts;
      close = λ d e m n. near d e (others d m) (others e n);
      above = λ d m. rw (raised_source s tally) (scratch_above d (others d m));
      second = λ d e m n q h. rw (raised_source s tally) (scratch_second d e (others d m) (others e n) q h);
      below = λ d m. rw (raised_source s tally) (scratch_below d (others d m));
    }
      where
        at_scratch : (d : Descriptor) → d ≡ t → raised s tally d ≡ tally t
        at_scratch d e = rw e (raised_other s tally t joined)

        near : (d e : Descriptor) → (d ≡ t) ⊎ (Memᴰ d es × (d ≢ s)) → (e ≡ t) ⊎ (Memᴰ e es × (e ≢ s)) → raised s tally d ≤ raised s tally e + 127
        near d e (inl x) (inl y) = rw (at_scratch d x, at_scratch e y) (omega arith)
        near d e (inl x) (inr y) = rw (at_scratch d x, raised_other s tally e y.1) (p.second s e source_there y.0 (λ z. y.1 (sym z)) (least.least e y.0))
        near d e (inr x) (inl y) = rw (raised_other s tally d x.1, at_scratch e y) (omega (arith, p.below d x.0))
        near d e (inr x) (inr y) = rw (raised_other s tally d x.1, raised_other s tally e y.1) (p.close d e x.0 y.0)

        scratch_above : (d : Descriptor) → (d ≡ t) ⊎ (Memᴰ d es × (d ≢ s)) → tally s + 1 ≤ raised s tally d + 128
        scratch_above d (inl x) = rw (at_scratch d x) (omega (arith, p.below s source_there))
        scratch_above d (inr x) = rw (raised_other s tally d x.1) (omega (arith, least.least d x.0))

        scratch_second : (d e : Descriptor) → (d ≡ t) ⊎ (Memᴰ d es × (d ≢ s)) → (e ≡ t) ⊎ (Memᴰ e es × (e ≢ s)) → d ≢ e
            → raised s tally d ≤ raised s tally e → tally s + 1 ≤ raised s tally e + 127
        scratch_second d e (inl x) (inl y) q h = absurd (q (x ∙ sym y))
        scratch_second d e (inr x) (inl y) q h =
            let c : tally d ≤ tally t = rw (raised_other s tally d x.1, at_scratch e y) at h in
            rw (at_scratch e y) (omega (arith, least.least d x.0))
        scratch_second d e x (inr y) q h = rw (raised_other s tally e y.1) (omega (arith, least.least e y.0))

        scratch_below : (d : Descriptor) → (d ≡ t) ⊎ (Memᴰ d es × (d ≢ s)) → raised s tally d < tally s + 1 + 128
        scratch_below d (inl x) = rw (at_scratch d x) (omega (arith, p.above s source_there))
        scratch_below d (inr x) = rw (raised_other s tally d x.1) (omega (arith, p.close d s x.0 source_there))
