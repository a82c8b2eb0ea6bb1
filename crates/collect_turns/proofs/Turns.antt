-- Any number of collections, with other calls between them.
use Rattle.std.specs.Prelude.{ℕ, ◌+◌, ◌-◌, ◌≤◌, ◌≡◌, ◌≢◌, ◌↔◌, cond}
use Rattle.std.proofs.Common.{sym, ◌∙◌, inl, inr, ⊎_elim}
use Rattle.std.proofs.Math.Option.{some}
use mathlib.Core.List.{List, [], ◌∷◌, Memᴰ}
use native.Mathlib.Omega.{arith}
use Rattle.format.specs.Bytes.{Bytes}
use Rattle.format.specs.AreaHeader.{area_header_size}
use Rattle.format_laws.specs.Bytes.{same_byte}
use Rattle.volume_laws.specs.Lists.{keep_cong}
use Rattle.calls.specs.Areas.{area_bytes, file_areas, scratch_areas}
use Rattle.calls.specs.Collect.{count_of, source_of, collect_of, image_collected}
use Rattle.calls.specs.declared.Descriptor.{Descriptor}
use Rattle.calls_laws.specs.Checks.{header_file, header_scratch}
use Rattle.collect_laws.proofs.Source.{eligible_file}
use Rattle.collect_laws.proofs.Mounted.{scratch_is, file_is}
use Rattle.demand2.specs.Store.{SameHeaders}
use Rattle.demand2.proofs.Store.{same_area}
use Rattle.demand2_collect.proofs.Collect.{collect}
use Rattle.collect_turns.specs.Words.{TakesTurns, is_same_area, times, Run, ends, keeps, collects, InOrder, Fair}
use Rattle.collect_turns.specs.Turn.{raised}
use Rattle.collect_turns.proofs.Turn.{same_self, other_area, turn, turns_kept, joined, least}

-- ---- headers kept

module _ (image image' : Bytes) (ds : List Descriptor) (h : SameHeaders image image' ds) where
  same_files : file_areas image' ds ≡ file_areas image ds
  unfolding file_areas
  same_files = keep_cong _ _ ds (λ d m. header_file d.length (area_bytes image' d) (area_bytes image d) (h d m))

  same_scratch : scratch_areas image' ds ≡ scratch_areas image ds
  unfolding scratch_areas
  same_scratch = keep_cong _ _ ds (λ d m. header_scratch d.length (area_bytes image' d) (area_bytes image d) (h d m))

  same_count : (d : Descriptor) → Memᴰ d ds → count_of image' d ≡ count_of image d
  same_count d m = same_byte area_header_size (area_bytes image' d) (area_bytes image d) (h d m) 21 (omega arith)

  kept_turns : (t d : Descriptor) → TakesTurns image ds t d ↔ TakesTurns image' ds t d
  kept_turns t d = ((λ p. rw same_files p), (λ p. rw same_files at p))

  kept_order : (tally : Descriptor → ℕ) (t : Descriptor) → InOrder tally image ds t → InOrder tally image' ds t
  kept_order tally t p = record {
    one_scratch = same_scratch ∙ p.one_scratch;
    counts = λ d q. let q = rw same_files at q in p.counts d q ∙ sym (same_count d (listed d q));
    close = rw same_files p.close;
    above = rw same_files p.above;
    second = rw same_files p.second;
    below = rw same_files p.below;
  }
    where
      listed : (d : Descriptor) → TakesTurns image ds t d → Memᴰ d ds
      listed d (inl e) = rw e (scratch_is image ds t p.one_scratch).0
      listed d (inr m) = (file_is image ds d (eligible_file (file_areas image ds) t m).0).0

-- ---- a run

-- tallies that are equal one by one
order_same : (f g : Descriptor → ℕ) → ((d : Descriptor) → f d ≡ g d) → (image : Bytes) (ds : List Descriptor) (t : Descriptor)
    → InOrder f image ds t → InOrder g image ds t
order_same f g e image ds t p = record {
  one_scratch = p.one_scratch;
  counts = λ d q. rw (← e d) (p.counts d q);
  close = λ d c m n. rw (← e d, ← e c) (p.close d c m n);
  above = λ d m. rw (← e d, ← e t) (p.above d m);
  second = λ d c m n q h. rw (← e c, ← e t) (p.second d c m n q (rw (← e d, ← e c) at h));
  below = λ d m. rw (← e d, ← e t) (p.below d m);
}

-- one and then the other
both : {A B C : Type 0} → A ↔ B → B ↔ C → A ↔ C
both p q = ((λ a. q.0 (p.0 a)), (λ c. p.1 (q.1 c)))

-- ---- two areas

counted_once : (d s : Descriptor) → d ≡ s → ◌≡◌ {A = ℕ} (cond (is_same_area d s) 1 0) 1
counted_once d s e = rw (e, same_self s)

not_counted : (d s : Descriptor) → d ≢ s → ◌≡◌ {A = ℕ} (cond (is_same_area d s) 1 0) 0
not_counted d s n = rw (other_area d s n)

-- by how much d may be collected more often than e: by one more if e is scratch, which is not collected before another is
record Excess (tally : Descriptor → ℕ) (t d e : Descriptor) (l : List Descriptor) : Type 0 where
  file : t ≢ e → times d l ≤ times e l + (tally e + 1 - tally d)
  scratch : t ≡ e → times d l ≤ times e l + 1 + (tally e - tally d)

excess_next : (tally : Descriptor → ℕ) (t s d e : Descriptor) (l : List Descriptor) → d ≢ e → t ≢ s → (t ≢ e → tally s ≤ tally e)
    → Excess (raised s tally) s d e l → Excess tally t d e (s ∷ l)
unfolding times
excess_next tally t s d e l apart other low r = go (same_area d s) (same_area e s)
  where
    go : Dec (d ≡ s) → Dec (e ≡ s) → Excess tally t d e (s ∷ l)
    go (yes x) (yes y) = absurd (apart (x ∙ sym y))
    go (yes x) (no y) =
        let p = counted_once d s x in
        let q = not_counted e s y in
        let z = r.file (λ z. y (sym z)) in
        let w : tally s ≡ tally d = rw x in
        record { file = λ n. omega (arith, p, q, z, w, low n); scratch = λ n. omega (arith, p, q, z) }
    go (no x) (yes y) =
        let p = not_counted d s x in
        let q = counted_once e s y in
        let z = r.scratch (sym y) in
        record { file = λ n. omega (arith, p, q, z); scratch = λ n. absurd (other (n ∙ y)) }
    go (no x) (no y) =
        let p = not_counted d s x in
        let q = not_counted e s y in
        let z = r.file (λ z. y (sym z)) in
        record { file = λ n. omega (arith, p, q, z); scratch = λ n. omega (arith, p, q, z) }

-- ---- a run

module _ (ds : List Descriptor) where
  -- what a collection does to tallies in order
  record Collected (image : Bytes) (tally : Descriptor → ℕ) (t s : Descriptor) : Type 0 where
    after : InOrder (raised s tally) (image_collected image ds) ds s
    same : (d : Descriptor) → TakesTurns image ds t d ↔ TakesTurns (image_collected image ds) ds s d
    other : t ≢ s
    low : (e : Descriptor) → TakesTurns image ds t e → t ≢ e → tally s ≤ tally e

  one_collected : (image : Bytes) (tally : Descriptor → ℕ) (t u s : Descriptor) → InOrder tally image ds t → collect_of image ds ≡ 0
      → scratch_areas image ds ≡ u ∷ [] → source_of image (file_areas image ds) u ≡ some s → Collected image tally t s
  one_collected image tally t u s p accepted one chosen =
      let a = collect image ds accepted in
      let x : t ≡ a.scratch = cc in
      let y : a.source ≡ s = cc in
      let p = rw x at p in
      record {
        after = rw y at (turn image (image_collected image ds) ds a tally p);
        same = λ d. rw (x, ← y) (turns_kept image (image_collected image ds) ds a d);
        other = λ z. joined image (image_collected image ds) ds a (sym x ∙ z ∙ sym y);
        low = λ e m n. ⊎_elim
            (λ z. absurd (n (x ∙ sym z)))
            (λ i. rw (← y) ((least image (image_collected image ds) ds a tally p).least e i)) (rw x at m);
      }

  excess : {image image' : Bytes} {l : List Descriptor} (d e : Descriptor) → d ≢ e → (tally : Descriptor → ℕ) (t : Descriptor)
      → InOrder tally image ds t → TakesTurns image ds t e → Run ds image l image' → Excess tally t d e l
  unfolding times
  excess d e apart tally t p m ends = record { file = λ n. omega arith; scratch = λ n. omega arith }
  excess {image} d e apart tally t p m (keeps {between = between} h r) =
      excess d e apart tally t (kept_order image between ds h tally t p) ((kept_turns image between ds h t e).0 m) r
  excess {image} d e apart tally t p m (collects {l = l} u s accepted one chosen r) =
      let c = one_collected image tally t u s p accepted one chosen in
      excess_next tally t s d e l apart c.other (c.low e m) (excess d e apart (raised s tally) s c.after ((c.same e).0 m) r)

  more_often : {image image' : Bytes} {l : List Descriptor} (tally : Descriptor → ℕ) (t : Descriptor) → InOrder tally image ds t → Run ds image l image'
      → (d e : Descriptor) → TakesTurns image ds t e → times d l ≤ times e l + 1 + (tally e - tally d)
  more_often {l = l} tally t p r d e m = go (same_area d e) (same_area t e)
    where
      go : Dec (d ≡ e) → Dec (t ≡ e) → times d l ≤ times e l + 1 + (tally e - tally d)
      go (yes z) q = rw z (omega arith)
      go (no n) (yes z) = (excess d e n tally t p m r).scratch z
      go (no n) (no z) = omega (arith, (excess d e n tally t p m r).file z)

  -- the state that a run leaves
  record Left (tally : Descriptor → ℕ) (image image' : Bytes) (t : Descriptor) (l : List Descriptor) : Type 0 where
    scratch : Descriptor
    in_order : InOrder (λ d. tally d + times d l) image' ds scratch
    same_turns : (d : Descriptor) → TakesTurns image ds t d ↔ TakesTurns image' ds scratch d

  left : {image image' : Bytes} {l : List Descriptor} (tally : Descriptor → ℕ) (t : Descriptor)
      → InOrder tally image ds t → Run ds image l image' → Left tally image image' t l
  unfolding times
  left {image} tally t p ends =
      record { scratch = t; in_order = order_same tally (λ d. tally d + times d []) (λ d. omega arith) image ds t p; same_turns = λ d. ((λ q. q), (λ q. q)) }
  left {image} tally t p (keeps {between = between} h r) =
      let f = left tally t (kept_order image between ds h tally t p) r in
      record { scratch = f.scratch; in_order = f.in_order; same_turns = λ d. both (kept_turns image between ds h t d) (f.same_turns d) }
  left {image} {image'} tally t p (collects {l = l} u s accepted one chosen r) =
      let c = one_collected image tally t u s p accepted one chosen in
      let f = left (raised s tally) s c.after r in
      record {
        scratch = f.scratch;
        in_order = order_same (λ d. raised s tally d + times d l) (λ d. tally d + times d (s ∷ l)) (λ d. omega arith) image' ds f.scratch f.in_order;
        same_turns = λ d. both (c.same d) (f.same_turns d);
      }

  pub turns : {image image' : Bytes} {l : List Descriptor} (tally : Descriptor → ℕ) (t : Descriptor)
      → InOrder tally image ds t → Run ds image l image' → Fair tally image image' ds t l
  turns tally t p r =
      let f = left tally t p r in
      record { scratch = f.scratch; in_order = f.in_order; same_turns = f.same_turns; within = more_often tally t p r }
