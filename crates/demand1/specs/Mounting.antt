-- Checks 1 to 7 mean what their rows say.
use Prim.Native.Nat.{ℕ, ◌≤◌, ◌<◌, max}
use Rattle.std.specs.Prelude.{◌≡◌, ◌⊎◌, ◌≢◌, Bool, false, cond, ◌&&◌, ◌||◌, length, T, eqb, ltb}
use Rattle.std.proofs.Math.Path.{refl}
use Rattle.std.proofs.Common.{sym, ◌∙◌, inl, inr, arith, T_not, le→leb, leb→le}
use Rattle.std.proofs.Math.Logic.{⊎_elim}
use Rattle.std.proofs.Math.Bool.{true, not}
use Rattle.std.proofs.Math.Option.{Option, none, some}
use mathlib.Core.List.Memᴰ
use mathlib.Core.List.{List, [], ◌∷◌, map, Memᴰ}
use Rattle.std.proofs.Math.Dec.{leb}
use borrow.Author.Tests.{eqb-true, eqb-false, ltb-true, ltb-false, leb-true, leb-false}
use Rattle.format.specs.Bytes.{Bytes}
use Rattle.format.specs.Ids.{root_id}
use Rattle.format.specs.AreaHeader.{area_id}
use Rattle.format.specs.Record.{record_id, record_sequence}
use Rattle.volume.specs.Lists.{all, once, has, same}
use Rattle.volume.specs.View.{by_bytes}
use Rattle.volume.specs.Counting.{inode_of, inode_ids, block_ids, agree, all_agree}
use Rattle.volume_laws.specs.Tests.{true→T, T→true, and_T, T_and, not_is_false}
use Rattle.volume_laws.specs.Lists.{all_mem, mem_all, not_all, same_refl, same_eq}
use Rattle.volume_laws.specs.Once.{Nodup}
use Rattle.volume_laws.specs.Counting.{agree_test, counting_mem, counting_none}
use Rattle.calls.specs.Refusal.{first_refusal}
use Rattle.calls.specs.Areas.{area_end, area_bytes, file_areas, scratch_areas, most_areas, shortest_area, largest_image, good_area, disjoint, all_disjoint}
use Rattle.calls.specs.Areas.{good_areas}
use Rattle.calls.specs.Mount.{accepted_records, volume, most_inodes, most_blocks, bad_description, shared_area_id, wrong_areas, short_scratch, too_many_ids}
use Rattle.calls.specs.Mount.{no_root}
use Rattle.calls.specs.Mount.{mount_checks, mount_number}
use Rattle.calls.specs.Storing.{is_among}
use Rattle.calls.specs.declared.Descriptor.{Descriptor}
use Rattle.calls_laws.specs.Checks.{InArea}
use Rattle.calls_laws.specs.Unused.{among, not_among}
use Rattle.demand2.specs.Places.{Distinct}
use Rattle.demand2.proofs.Places.{files_distinct}
use Rattle.demand2.proofs.Format.{own_ids}
use Rattle.demand2_collect.proofs.Collect.{once_long, labels_differ}
use Rattle.demand1.specs.Table.{Row, ◌given_when◌, Answers, NoOverlap, GoodList, mount_rows}

-- ---- tests and what they mean

-- the test passes exactly when w holds
abbrev pub Means : Bool → Type 0 → Type 0
Means b w = (b ≡ true → w) × (b ≡ false → ¬ w)

no_way : true ≡ false → ⊥
no_way e = let z : ◌≡◌ {A = ℕ} 0 1 = cc in omega arith

pub ltb_means : (m n : ℕ) → Means (ltb m n) (m < n)
ltb_means m n = (ltb-true m n, λ e h. let g = ltb-false m n e in omega arith)

pub leb_means : (m n : ℕ) → Means (leb m n) (m ≤ n)
leb_means m n = (leb-true m n, λ e h. let g = leb-false m n e in omega arith)

pub eqb_means : (m n : ℕ) → Means (eqb m n) (m ≡ n)
eqb_means m n = (eqb-true m n, eqb-false m n)

pub is_means : (b : Bool) → Means b (b ≡ true)
is_means b = (λ e. e, λ e q. no_way (sym q ∙ e))

pub not_means : (b : Bool) {w : Type 0} → Means b w → Means (not b) (¬ w)
not_means true m = (λ e. absurd (no_way (sym e)), λ e n. n (m.0 refl))
not_means false m = (λ e. m.1 refl, λ e. absurd (no_way e))

pub fails_means : (b : Bool) → Means (not b) (b ≡ false)
fails_means true = (λ e. absurd (no_way (sym e)), λ e. no_way)
fails_means false = (λ e. refl, λ e. absurd (no_way e))

pub or_means : (a b : Bool) {v w : Type 0} → Means a v → Means b w → Means (a || b) (v ⊎ w)
or_means true b m n = (λ e. inl (m.0 refl), λ e. absurd (no_way e))
or_means false b m n = (λ e. inr (n.0 e), λ e. ⊎_elim (m.1 refl) (n.1 e))

-- a check and its row, before others
pub step : (b : Bool) (n m : ℕ) (w : Type 0) (rs : List Row) → Means b w → (b ≡ false → Answers rs m) → Answers ((n given_when w) ∷ rs) (cond b n m)
unfolding Answers
step true n m w rs k a = inl (k.0 refl, refl)
step false n m w rs k a = inr (k.1 refl, a refl)

-- no row is left
pub done : Answers [] 0
unfolding Answers
done = refl

-- the number that the rows give is one
pub answers_once : (rs : List Row) (m n : ℕ) → Answers rs m → Answers rs n → m ≡ n
unfolding Answers
answers_once [] m n a b = a ∙ sym b
answers_once (r ∷ rs) m n (inl a) (inl b) = a.1 ∙ sym b.1
answers_once (r ∷ rs) m n (inl a) (inr b) = absurd (b.0 a.0)
answers_once (r ∷ rs) m n (inr a) (inl b) = absurd (a.0 b.0)
answers_once (r ∷ rs) m n (inr a) (inr b) = answers_once rs m n a.1 b.1

-- ---- check 1

apart_means : (d e : Descriptor) → shortest_area ≤ d.length → shortest_area ≤ e.length → Means (disjoint d e) ((i : ℕ) → InArea d i → ¬ InArea e i)
unfolding disjoint
apart_means d e m n = (to, back)
  where
    to : (leb (area_end d) e.offset || leb (area_end e) d.offset) ≡ true → (i : ℕ) → InArea d i → ¬ InArea e i
    to q i f g = go (leb (area_end d) e.offset) refl q
      where
        go : (b : Bool) → leb (area_end d) e.offset ≡ b → (b || leb (area_end e) d.offset) ≡ true → ⊥
        go true p q = omega (arith, leb-true (area_end d) e.offset p)
        go false p q = omega (arith, leb-true (area_end e) d.offset q)

    back : (leb (area_end d) e.offset || leb (area_end e) d.offset) ≡ false → ¬ ((i : ℕ) → InArea d i → ¬ InArea e i)
    back q h = go (leb (area_end d) e.offset) refl q
      where
        go : (b : Bool) → leb (area_end d) e.offset ≡ b → (b || leb (area_end e) d.offset) ≡ false → ⊥
        go true p q = no_way q
        go false p q =
            let u = leb-false (area_end d) e.offset p in
            let w = leb-false (area_end e) d.offset q in
            h (max d.offset e.offset) (omega arith, omega arith) (omega arith, omega arith)

overlap_means : (ds : List Descriptor) → ((d : Descriptor) → Memᴰ d ds → shortest_area ≤ d.length)
    → (T (all_disjoint ds) → NoOverlap ds) × (NoOverlap ds → T (all_disjoint ds))
unfolding all_disjoint
overlap_means [] h = (λ t. tt, λ n. tt)
overlap_means (d ∷ l) h = go (overlap_means l (λ e m. h e (Memᴰ.tail m)))
  where
    one : (e : Descriptor) → Memᴰ e l → Means (disjoint d e) ((i : ℕ) → InArea d i → ¬ InArea e i)
    one e m = apart_means d e (h d (Memᴰ.head refl)) (h e (Memᴰ.tail m))

    passes : (e : Descriptor) → Memᴰ e l → ((i : ℕ) → InArea d i → ¬ InArea e i) → (b : Bool) → disjoint d e ≡ b → T b
    passes e m k true q = tt
    passes e m k false q = (one e m).1 q k

    go : (T (all_disjoint l) → NoOverlap l) × (NoOverlap l → T (all_disjoint l))
        → (T (all (disjoint d) l && all_disjoint l) → NoOverlap (d ∷ l)) × (NoOverlap (d ∷ l) → T (all (disjoint d) l && all_disjoint l))
    go ih = (
      (λ t. let s = and_T (all (disjoint d) l) (all_disjoint l) t in ((λ e m. (one e m).0 (T→true (all_mem (disjoint d) l s.0 m))), ih.0 s.1)),
      (λ n. T_and (all (disjoint d) l) (all_disjoint l) (mem_all (disjoint d) l (λ e m. passes e m (n.0 e m) (disjoint d e) refl)) (ih.1 n.1)),
    )

-- "Good: .."
good_means : (size : ℕ) (ds : List Descriptor) → Means (good_areas size ds) (GoodList size ds)
unfolding good_areas good_area
good_means size ds = ((λ e. good (true→T e)), (λ e g. back e g))
  where
    good : T (leb 1 (length ds) && leb (length ds) most_areas && all (good_area size) ds && all_disjoint ds) → GoodList size ds
    good t =
        let s = and_T (leb 1 (length ds) && leb (length ds) most_areas && all (good_area size) ds) (all_disjoint ds) t in
        let u = and_T (leb 1 (length ds) && leb (length ds) most_areas) (all (good_area size) ds) s.0 in
        let w = and_T (leb 1 (length ds)) (leb (length ds) most_areas) u.0 in
        record {
          entries = (leb→le 1 (length ds) w.0, leb→le (length ds) most_areas w.1);
          each = each u.1;
          apart = (overlap_means ds (λ d m. (each u.1 d m).0)).0 s.1;
        }
      where
        each : T (all (good_area size) ds) → (d : Descriptor) → Memᴰ d ds → (shortest_area ≤ d.length) × (d.length ≤ largest_image) × (area_end d ≤ size)
        each t d m =
            let g = all_mem (good_area size) ds t m in
            let s = and_T (leb shortest_area d.length && leb d.length largest_image) (leb (area_end d) size) g in
            let u = and_T (leb shortest_area d.length) (leb d.length largest_image) s.0 in
            (leb→le shortest_area d.length u.0, leb→le d.length largest_image u.1, leb→le (area_end d) size s.1)

    back : (leb 1 (length ds) && leb (length ds) most_areas && all (good_area size) ds && all_disjoint ds) ≡ false → GoodList size ds → ⊥
    back e g =
        let t = T_and (leb 1 (length ds) && leb (length ds) most_areas && all (good_area size) ds) (all_disjoint ds)
        (T_and (leb 1 (length ds) && leb (length ds) most_areas) (all (good_area size) ds)
        (T_and (leb 1 (length ds)) (leb (length ds) most_areas) (le→leb 1 (length ds) g.entries.0) (le→leb (length ds) most_areas g.entries.1))
        (mem_all (good_area size) ds (λ d m. let k = g.each d m in
        T_and (leb shortest_area d.length && leb d.length largest_image) (leb (area_end d) size)
        (T_and (leb shortest_area d.length) (leb d.length largest_image) (le→leb shortest_area d.length k.0)
        (le→leb d.length largest_image k.1)) (le→leb (area_end d) size k.2))))
        ((overlap_means ds (λ d m. (g.each d m).0)).1 g.apart) in
        rw e at t

pub list_means : (image : Bytes) (ds : List Descriptor) → Means (bad_description image ds) ((largest_image < length image) ⊎ (¬ GoodList (length image) ds))
unfolding bad_description
list_means image ds =
    or_means (ltb largest_image (length image)) (not (good_areas (length image) ds)) (ltb_means largest_image (length image))
    (not_means (good_areas (length image) ds) (good_means (length image) ds))

-- ---- checks 2 to 4

-- of different areas two have one label, or all labels differ
two_alike : (f : Descriptor → ℕ) (fs : List Descriptor) → Distinct fs
    → ((d e : Descriptor) × Memᴰ d fs × Memᴰ e fs × (d ≢ e) × (f d ≡ f e)) ⊎ Nodup (map f fs)
two_alike f [] n = inr tt
two_alike f (d ∷ fs) n = go (is_among (f d) (map f fs)) refl (two_alike f fs n.1)
  where
    pair : (e : Descriptor) → Memᴰ e fs → f e ≡ f d
        → (d' e : Descriptor) × Memᴰ d' (d ∷ fs) × Memᴰ e (d ∷ fs) × (d' ≢ e) × (f d' ≡ f e)
    pair e m q = (d, e, Memᴰ.head refl, Memᴰ.tail m, λ z. n.0 (Memᴰ.cast z m), sym q)

    go : (b : Bool) → is_among (f d) (map f fs) ≡ b
        → ((d e : Descriptor) × Memᴰ d fs × Memᴰ e fs × (d ≢ e) × (f d ≡ f e)) ⊎ Nodup (map f fs)
        → ((d' e : Descriptor) × Memᴰ d' (d ∷ fs) × Memᴰ e (d ∷ fs) × (d' ≢ e) × (f d' ≡ f e)) ⊎ Nodup (f d ∷ map f fs)
    go true q ih = let r = Memᴰ.of_map f fs (among (f d) (map f fs) (true→T q)) in inl (pair r.0 r.1 r.2)
    go false q (inl p) = inl (p.0, p.1, Memᴰ.tail p.2, Memᴰ.tail p.3, p.4, p.5)
    go false q (inr m) = inr ((λ k. not_among (f d) (map f fs) (λ t. rw q at t) k), m)

-- a list that does not pass a test has a member that does not
some_fails : {A : Type 0} (p : A → Bool) (l : List A) → not (all p l) ≡ true → (a : A) × Memᴰ a l × (p a ≡ false)
some_fails p l e = not_all p l (T_not (all p l) (true→T e))

-- two records that check 6 does not let stand together
clash : (r s : Bytes) → agree by_bytes r s ≡ false → (record_id r ≡ record_id s) × (record_sequence r ≡ record_sequence s) × (r ≢ s)
unfolding agree
clash r s e = go (eqb (record_id r) (record_id s)) refl (eqb (record_sequence r) (record_sequence s)) refl e
  where
    go : (a : Bool) → eqb (record_id r) (record_id s) ≡ a → (b : Bool) → eqb (record_sequence r) (record_sequence s) ≡ b
        → cond (a && b) (same r s) true ≡ false → (record_id r ≡ record_id s) × (record_sequence r ≡ record_sequence s) × (r ≢ s)
    go true p true q e = (
      eqb-true (record_id r) (record_id s) p,
      eqb-true (record_sequence r) (record_sequence s) q,
      λ z. let t : T (same r s) = rw z (same_refl s) in rw e at t,
    )
    go true p false q e = absurd (no_way e)
    go false p b q e = absurd (no_way e)

module _ (image : Bytes) (ds : List Descriptor) where
  shared_means : bad_description image ds ≡ false → Means (shared_area_id image (file_areas image ds))
      ((d e : Descriptor) × Memᴰ d (file_areas image ds) × Memᴰ e (file_areas image ds) × (d ≢ e)
      × (area_id (area_bytes image d) ≡ area_id (area_bytes image e)))
  unfolding shared_area_id
  shared_means described = (
    (λ e. ⊎_elim (λ p. p) (λ n. absurd (no_way (sym e ∙ own_ids ids n)))
        (two_alike label (file_areas image ds) (files_distinct image ds described))),
    (λ e p. p.4 (labels_differ label (file_areas image ds) (once_long ids (ltb-false (length (once ids)) (length ids) e))
        p.0 p.1 p.2 p.3 p.5)),
  )
    where
      label : Descriptor → ℕ
      label d = area_id (area_bytes image d)

      ids : List ℕ
      ids = map label (file_areas image ds)

  areas_means : Means (wrong_areas (file_areas image ds) (scratch_areas image ds))
      ((length (file_areas image ds) ≡ 0) ⊎ (length (scratch_areas image ds) ≢ 1))
  unfolding wrong_areas
  areas_means =
      or_means (eqb (length (file_areas image ds)) 0) (not (eqb (length (scratch_areas image ds)) 1)) (eqb_means (length (file_areas image ds)) 0)
      (not_means (eqb (length (scratch_areas image ds)) 1) (eqb_means (length (scratch_areas image ds)) 1))

  short_means : Means (short_scratch (file_areas image ds) (scratch_areas image ds))
      ((s f : Descriptor) × Memᴰ s (scratch_areas image ds) × Memᴰ f (file_areas image ds) × (s.length < f.length))
  unfolding short_scratch
  short_means = (to, back)
    where
      to : not (all (λ s. all (λ f. leb f.length s.length) (file_areas image ds)) (scratch_areas image ds)) ≡ true
          → (s f : Descriptor) × Memᴰ s (scratch_areas image ds) × Memᴰ f (file_areas image ds) × (s.length < f.length)
      to e =
          let s = some_fails (λ s. all (λ f. leb f.length s.length) (file_areas image ds)) (scratch_areas image ds) e in
          let f = not_all (λ f. leb f.length s.0.length) (file_areas image ds) (λ t. rw s.2 at t) in
          (s.0, f.0, s.1, f.1, leb-false f.0.length s.0.length f.2)

      back : not (all (λ s. all (λ f. leb f.length s.length) (file_areas image ds)) (scratch_areas image ds)) ≡ false
          → ¬ ((s f : Descriptor) × Memᴰ s (scratch_areas image ds) × Memᴰ f (file_areas image ds) × (s.length < f.length))
      back e p =
          let a = true→T (not_is_false (all (λ s. all (λ f. leb f.length s.length) (file_areas image ds)) (scratch_areas image ds)) e) in
          let l = leb→le p.1.length p.0.length (all_mem (λ f. leb f.length p.0.length) (file_areas image ds)
          (all_mem (λ s. all (λ f. leb f.length s.length) (file_areas image ds)) (scratch_areas image ds) a p.2) p.3) in
          omega (arith, p.4)

  -- ---- checks 5 to 7

  ids_means : Means (too_many_ids (volume image ds))
      ((most_inodes < length (inode_ids by_bytes (volume image ds))) ⊎ (most_blocks < length (block_ids by_bytes (volume image ds))))
  unfolding too_many_ids
  ids_means =
      or_means (ltb most_inodes (length (inode_ids by_bytes (volume image ds)))) (ltb most_blocks (length (block_ids by_bytes (volume image ds))))
      (ltb_means most_inodes _) (ltb_means most_blocks _)

  agree_means : Means (not (all_agree by_bytes (accepted_records image ds)))
      ((r s : Bytes) × Memᴰ r (accepted_records image ds) × Memᴰ s (accepted_records image ds) × (record_id r ≡ record_id s)
      × (record_sequence r ≡ record_sequence s) × (r ≢ s))
  unfolding all_agree
  agree_means = (to, back)
    where
      to : not (all (λ r. all (agree by_bytes r) (accepted_records image ds)) (accepted_records image ds)) ≡ true
          → (r s : Bytes) × Memᴰ r (accepted_records image ds) × Memᴰ s (accepted_records image ds) × (record_id r ≡ record_id s)
          × (record_sequence r ≡ record_sequence s) × (r ≢ s)
      to e =
          let r = some_fails (λ r. all (agree by_bytes r) (accepted_records image ds)) (accepted_records image ds) e in
          let s = not_all (agree by_bytes r.0) (accepted_records image ds) (λ t. rw r.2 at t) in
          let d = clash r.0 s.0 s.2 in
          (r.0, s.0, r.1, s.1, d.0, d.1, d.2)

      back : not (all (λ r. all (agree by_bytes r) (accepted_records image ds)) (accepted_records image ds)) ≡ false
          → ¬ ((r s : Bytes) × Memᴰ r (accepted_records image ds) × Memᴰ s (accepted_records image ds) × (record_id r ≡ record_id s)
          × (record_sequence r ≡ record_sequence s) × (r ≢ s))
      back e p =
          let t = true→T (not_is_false (all (λ r. all (agree by_bytes r) (accepted_records image ds)) (accepted_records image ds)) e) in
          p.6 (agree_test by_bytes same_eq (accepted_records image ds) t p.0 p.1 p.2 p.3 p.4 p.5)

  root_means : Means (no_root (volume image ds)) ((r : Bytes) → Memᴰ r (volume image ds).inodes → record_id r ≢ root_id)
  unfolding no_root
  root_means = go (inode_of by_bytes (volume image ds) root_id) refl
    where
      go : (o : Option Bytes) → inode_of by_bytes (volume image ds) root_id ≡ o
          → Means (not (has (λ r. true) o)) ((r : Bytes) → Memᴰ r (volume image ds).inodes → record_id r ≢ root_id)
      go none q = (λ e. counting_none by_bytes (volume image ds).inodes root_id q, λ e. absurd (no_way e))
      go (some r) q =
          let m = counting_mem by_bytes (volume image ds).inodes root_id r q in
          (λ e. absurd (no_way (sym e)), λ e h. h r m.0 m.1)

  pub mount_answers : Answers (mount_rows image ds) (mount_number image ds)
  unfolding mount_number mount_checks first_refusal
  mount_answers =
      step (bad_description image ds) 1 _ _ _ (list_means image ds) (λ described.
      step (shared_area_id image (file_areas image ds)) 2 _ _ _ (shared_means described) (λ e.
      step (wrong_areas (file_areas image ds) (scratch_areas image ds)) 3 _ _ _ areas_means (λ e.
      step (short_scratch (file_areas image ds) (scratch_areas image ds)) 4 _ _ _ short_means (λ e.
      step (too_many_ids (volume image ds)) 5 _ _ _ ids_means (λ e.
      step (not (all_agree by_bytes (accepted_records image ds))) 6 _ _ _ agree_means (λ e.
      step (no_root (volume image ds)) 7 0 _ [] root_means (λ e. done)))))))
