-- Collect. Demand 2: "Creating, unlinking and collecting do what is written there, and everything else that could be reached by path reads as
-- before." Document 01, "Beliefs that bring stale data back", 1: "an older inode in another area returns".
use Rattle.std.specs.Prelude.{ℕ, ◌≤◌, ◌⊎◌, ◌≢◌, ◌↔◌, true, not, length, eqb}
use Rattle.std.proofs.Math.Path.{◌≡◌, refl, sym, ap}
use Rattle.std.proofs.Common.{◌∙◌, arith, nltb→le}
use Rattle.std.proofs.Math.Logic.{inl, inr, ⊎_elim}
use Rattle.std.proofs.Math.Bool.{false}
use Rattle.std.proofs.Math.Option.{Option, none, some}
use mathlib.Core.List.{List, [], ◌∷◌, map, Memᴰ}
use Rattle.std.proofs.Math.Dec.{leb, leb→le, le→leb}
use Rattle.format.specs.Bytes.{Bytes}
use Rattle.format.specs.Ids.{root_id}
use Rattle.format.specs.AreaHeader.{area_id}
use Rattle.format.specs.Record.{record_size, record_id, record_link}
use Rattle.format.specs.Reading.{area_clean}
use Rattle.volume.specs.Lists.{all, once}
use Rattle.volume.specs.View.{by_bytes}
use Rattle.volume.specs.Counting.{Volume, volume_of, inode_of, block_of, inode_ids, block_ids}
use Rattle.volume.specs.Fate.{Fate, live, dead, orphan, is_live, is_dead, fate_of, block_dead}
use Rattle.volume.specs.Path.{path_names}
use Rattle.volume_laws.specs.Tests.{true→T, T→true, not_is_false, eqb_differ}
use Rattle.volume_laws.specs.Lists.{all_mem, mem_all, same_refl, keep_shorter}
use Rattle.volume_laws.specs.Once.{Nodup, once_nodup, once_mem, pigeons}
use Rattle.volume_laws.specs.Counting.{agree_sub, test_agree, counting_mem, counting_absent, fewer_ids}
use Rattle.volume_laws.specs.Sound.{kinds_apart}
use Rattle.volume_laws.specs.Climb.{fate_discrete, live_not_dead}
use Rattle.calls.specs.Areas.{area_bytes, file_areas, scratch_areas}
use Rattle.calls.specs.Mount.{records_of, bytes_of, accepted_records, volume, bad_description, shared_area_id, wrong_areas, short_scratch, no_root}
use Rattle.calls.specs.Lookup.{resolve}
use Rattle.calls.specs.Read.{give, read_given}
use Rattle.calls.specs.Collect.{eligible, records_elsewhere, copied_records, collected}
use Rattle.calls.specs.Collect.{collect_of, image_collected}
use Rattle.calls.specs.declared.Descriptor.{Descriptor}
use Rattle.calls_laws.specs.Checks.{Passes, passes, mounts}
use Rattle.calls_laws.specs.Records.{volume_sound}
use Rattle.collect_laws.specs.Source.{IsSource}
use Rattle.collect_laws.proofs.Source.{source_found}
use Rattle.collect_laws.specs.Survivors.{Survivors}
use Rattle.collect_laws.proofs.Mounted.{copied_survive}
use Rattle.demand2.proofs.Store.{file_listed}
use Rattle.demand2.specs.Places.{Distinct}
use Rattle.demand2.proofs.Places.{distinct_keep, areas_distinct, files_distinct}
use Rattle.demand2.proofs.Mounted.{agreed, accepted_kind, few_ids, ids_few}
use Rattle.demand2.specs.Found.{root_there, root_lives, resolve_alike, read_alike}
use Rattle.demand2.proofs.Format.{own_ids}
use Rattle.demand2_collect.specs.Dropped.{InodeDropped, BlockDropped, LeftOut}
use Rattle.demand2_collect.proofs.Dropped.{kept_fate, kept_inode, stays_live, no_new_life, same_lookups, kept_contents}
use Rattle.demand2_collect.proofs.Copies.{inode_in, block_in, inode_not_copied, block_not_copied, fewer_records, fewer_blocks, left_out}
use Rattle.demand2_collect.specs.Image.{CollectGoes, collect_goes, ImageCollected, image_collected_lem}
use Rattle.demand2_collect.specs.Collect.{AfterCollect}

-- ---- check 2 by members

pub once_long : (l : List ℕ) → length l ≤ length (once l) → Nodup l
unfolding once
once_long [] h = tt
once_long (x ∷ l) h =
    let k = pigeons (once l) l (once_nodup l) (λ y m. once_mem l m) in
    let s = keep_shorter (λ y. not (eqb y x)) (once l) in
    (twice, once_long l (omega arith))
  where
    twice : ¬ Memᴰ x l
    twice m =
        let p = pigeons (once (x ∷ l)) l (once_nodup (x ∷ l))
        (λ y n. ⊎_elim (λ e. mathlib.Core.List.Memᴰ.cast e m) (λ k. k) (mathlib.Core.List.Memᴰ.cases_cons (once_mem (x ∷ l) n))) in
        omega arith

-- a list of areas of which no two have one label
module _ (f : Descriptor → ℕ) where
  pub labels_differ : (fs : List Descriptor) → Nodup (map f fs) → (d e : Descriptor) → Memᴰ d fs → Memᴰ e fs → f d ≡ f e → d ≡ e
  labels_differ [] n d e m _ z = elim m [ ]
  labels_differ (x ∷ fs) n d e (mathlib.Core.List.Memᴰ.head p) (mathlib.Core.List.Memᴰ.head q) z = p ∙ sym q
  labels_differ (x ∷ fs) n d e (mathlib.Core.List.Memᴰ.head p) (mathlib.Core.List.Memᴰ.tail k) z = absurd (n.0 (mathlib.Core.List.Memᴰ.cast (ap f (sym p) ∙ z) (mathlib.Core.List.Memᴰ.map f k)))
  labels_differ (x ∷ fs) n d e (mathlib.Core.List.Memᴰ.tail m) (mathlib.Core.List.Memᴰ.head q) z = absurd (n.0 (mathlib.Core.List.Memᴰ.cast (ap f (sym q) ∙ sym z) (mathlib.Core.List.Memᴰ.map f m)))
  labels_differ (x ∷ fs) n d e (mathlib.Core.List.Memᴰ.tail m) (mathlib.Core.List.Memᴰ.tail k) z = labels_differ fs n.1 d e m k z

  differ_nodup : (fs : List Descriptor) → Distinct fs → ((d e : Descriptor) → Memᴰ d fs → Memᴰ e fs → f d ≡ f e → d ≡ e) → Nodup (map f fs)
  differ_nodup [] n h = tt
  differ_nodup (x ∷ fs) n h = (
    (λ m. let r = mathlib.Core.List.Memᴰ.of_map f fs m in n.0 (mathlib.Core.List.Memᴰ.cast (h x r.0 (mathlib.Core.List.Memᴰ.head refl) (mathlib.Core.List.Memᴰ.tail r.1) (sym r.2)) r.1)),
    differ_nodup fs n.1 (λ d e m k. h d e (mathlib.Core.List.Memᴰ.tail m) (mathlib.Core.List.Memᴰ.tail k)),
  )

-- a list of one area
sole_area : (l : List Descriptor) → Distinct l → (s : Descriptor) → Memᴰ s l → ((d : Descriptor) → Memᴰ d l → d ≡ s) → l ≡ s ∷ []
sole_area [] n s m h = absurd (mathlib.Core.List.Memᴰ.not-nil m)
sole_area (d ∷ []) n s m h = ap (λ (x : Descriptor). x ∷ []) (h d (mathlib.Core.List.Memᴰ.head refl))
sole_area (d ∷ e ∷ l) n s m h =
    absurd (n.0 (mathlib.Core.List.Memᴰ.head (h d (mathlib.Core.List.Memᴰ.head refl) ∙ sym (h e (mathlib.Core.List.Memᴰ.tail (mathlib.Core.List.Memᴰ.head refl))))))

-- ---- the theorem

module _ (image : Bytes) (ds : List Descriptor) (g : CollectGoes image ds) where
  p : Passes image ds
  p = passes image ds g.mounted

  abbrev t : Descriptor
  t = g.scratch

  abbrev s : Descriptor
  s = g.source

  abbrev image' : Bytes
  image' = collected image ds t s

  abbrev v : Volume Bytes
  v = volume image ds

  abbrev w : Volume Bytes
  w = volume image' ds

  from : Memᴰ s (file_areas image ds) × (s.length ≡ t.length) × IsSource image (eligible (file_areas image ds) t) s
  from = source_found image (file_areas image ds) t s g.source_is

  c : ImageCollected image ds t s
  c = image_collected_lem image ds p t s g.one_scratch g.source_is

  survive : Survivors (volume_of by_bytes (accepted_records image ds)) (area_bytes image s) (records_elsewhere image (file_areas image ds) s) (copied_records image ds s)
  unfolding volume
  survive = copied_survive image ds s

  fewer : (b : Bytes) → Memᴰ b (accepted_records image' ds) → Memᴰ b (accepted_records image ds)
  fewer = fewer_records _ _ _ _ _ c.moved survive (agreed image ds p)

  left : LeftOut by_bytes v w
  unfolding volume
  left = left_out _ _ _ _ _ c.moved survive (agreed image ds p)

  described : bad_description image' ds ≡ false
  unfolding bad_description
  described = rw (bad_description, c.one_length) p.described

  -- ---- the checks

  abbrev label_in : Bytes → Descriptor → ℕ
  label_in x d = area_id (area_bytes x d)

  distinct_before : (d e : Descriptor) → Memᴰ d (file_areas image ds) → Memᴰ e (file_areas image ds) → label_in image d ≡ label_in image e
      → d ≡ e
  unfolding shared_area_id
  distinct_before = labels_differ (label_in image) (file_areas image ds)
      (once_long (map (label_in image) (file_areas image ds))
      (nltb→le (length (once (map (label_in image) (file_areas image ds)))) _ (rw p.own_ids tt)))

  distinct_after : (d e : Descriptor) → Memᴰ d (file_areas image' ds) → Memᴰ e (file_areas image' ds)
      → label_in image' d ≡ label_in image' e → d ≡ e
  distinct_after d e m k z = go (after d m) (after e k)
    where
      after : (d : Descriptor) → Memᴰ d (file_areas image' ds) → (d ≡ t) ⊎ (Memᴰ d (file_areas image ds) × (d ≢ s) × (d ≢ t))
      after = c.files

      as_before : (d : Descriptor) → Memᴰ d (file_areas image ds) → d ≢ s → d ≢ t → label_in image' d ≡ label_in image d
      as_before d f a b = ap area_id (c.elsewhere d (file_listed image ds d f) b a)

      at_scratch : (d : Descriptor) → d ≡ t → label_in image' d ≡ label_in image s
      at_scratch d q = ap (label_in image') q ∙ c.takes_id

      go : (d ≡ t) ⊎ (Memᴰ d (file_areas image ds) × (d ≢ s) × (d ≢ t)) → (e ≡ t) ⊎ (Memᴰ e (file_areas image ds) × (e ≢ s) × (e ≢ t)) → d ≡ e
      go (inl a) (inl b) = a ∙ sym b
      go (inl a) (inr b) =
          absurd (b.1 (sym (distinct_before s e from.0 b.0 (sym (at_scratch d a) ∙ z ∙ as_before e b.0 b.1 b.2))))
      go (inr a) (inl b) =
          absurd (a.1 (distinct_before d s a.0 from.0 (sym (as_before d a.0 a.1 a.2) ∙ z ∙ at_scratch e b)))
      go (inr a) (inr b) = distinct_before d e a.0 b.0 (sym (as_before d a.0 a.1 a.2) ∙ z ∙ as_before e b.0 b.1 b.2)

  scratch_now : scratch_areas image' ds ≡ s ∷ []
  unfolding scratch_areas
  scratch_now = sole_area (scratch_areas image' ds) (distinct_keep _ ds (areas_distinct image' ds described)) s
      c.now_scratch c.only_scratch

  some_file : length (file_areas image' ds) ≢ 0
  some_file z = none_in (file_areas image' ds) z c.now_file
    where
      none_in : (l : List Descriptor) → length l ≡ 0 → Memᴰ t l → ⊥
      none_in [] e m = mathlib.Core.List.Memᴰ.not-nil m
      none_in (d ∷ l) e m = omega arith

  -- no file area is longer than scratch was
  short_before : (d : Descriptor) → Memᴰ d (file_areas image ds) → d.length ≤ t.length
  unfolding short_scratch
  short_before d m =
      let a = true→T (not_is_false (all (λ s. all (λ f. leb f.length s.length) (file_areas image ds)) (scratch_areas image ds)) p.scratch) in
      let k : Memᴰ t (scratch_areas image ds) = rw g.one_scratch (mathlib.Core.List.Memᴰ.head refl) in
      leb→le d.length t.length (all_mem (λ f. leb f.length t.length) (file_areas image ds)
      (all_mem (λ s. all (λ f. leb f.length s.length) (file_areas image ds)) (scratch_areas image ds) a k) m)

  short_after : (d : Descriptor) → Memᴰ d (file_areas image' ds) → d.length ≤ s.length
  short_after d m = rw from.1 (⊎_elim at_scratch (λ h. short_before d h.0) (c.files d m))
    where
      at_scratch : d ≡ t → d.length ≤ t.length
      at_scratch e = rw e (omega arith)

  root : (r : Bytes) × (inode_of by_bytes v root_id ≡ some r)
  root = root_there v p.root

  root_stays : inode_of by_bytes w root_id ≡ inode_of by_bytes v root_id
  root_stays = kept_inode by_bytes v w left root_id (λ q. live_not_dead (sym (root_lives by_bytes v root.0 root.1) ∙ q))

  count_inodes : length (inode_ids by_bytes w) ≤ length (inode_ids by_bytes v)
  count_inodes = fewer_ids by_bytes v.inodes w.inodes left.fewer

  count_blocks : length (block_ids by_bytes w) ≤ length (block_ids by_bytes v)
  unfolding volume
  count_blocks = fewer_ids by_bytes v.blocks w.blocks
      (fewer_blocks _ _ _ _ _ c.moved survive (agreed image ds p))

  still : Passes image' ds
  unfolding shared_area_id wrong_areas short_scratch no_root all
  still = record {
    described = described;
    own_ids = own_ids (map (label_in image') (file_areas image' ds))
        (differ_nodup (label_in image') (file_areas image' ds) (files_distinct image' ds described) distinct_after);
    areas = rw (eqb_differ (length (file_areas image' ds)) 0 some_file, scratch_now);
    scratch = rw (
      scratch_now,
      T→true {b = all (λ f. leb f.length s.length) (file_areas image' ds)}
          (mem_all _ (file_areas image' ds) (λ d m. le→leb d.length s.length (short_after d m))),
    );
    few = few_ids w (omega (arith, count_inodes, (ids_few v p.few).0)) (omega (arith, count_blocks, (ids_few v p.few).1));
    agree = T→true (test_agree by_bytes same_refl (accepted_records image' ds)
        (agree_sub by_bytes (accepted_records image ds) (accepted_records image' ds) fewer (agreed image ds p)));
    root = rw root_stays p.root;
  }

  same_paths : (c q : Bytes) → resolve image' ds c q ≡ resolve image ds c q
  same_paths c q = resolve_alike image image' ds c q g.mounted (mounts image' ds still) (λ e. same_lookups by_bytes v w left (path_names c q))

  same_given : (i position room : ℕ) → give w i position room ≡ give v i position room
  unfolding give
  same_given i position room = go (fate_discrete (fate_of by_bytes v i) live)
    where
      unlive : (f : Fate) → f ≢ live → is_live f ≡ false
      unlive live n = absurd (n refl)
      unlive dead n = refl
      unlive orphan n = refl

      go : Dec (fate_of by_bytes v i ≡ live) → give w i position room ≡ give v i position room
      go (yes e) = rw (give, e, stays_live by_bytes v w left i e, kept_contents by_bytes v w left i (λ q. live_not_dead (sym e ∙ q)))
      go (no e) = rw (give, unlive (fate_of by_bytes v i) e, unlive (fate_of by_bytes w i) (λ q. e (no_new_life by_bytes v w left i q)))

  same_reads : (i position room : ℕ) → read_given image' ds i position room ≡ read_given image ds i position room
  same_reads i position room = read_alike image image' ds g.mounted (mounts image' ds still) i position room (same_given i position room)

  -- ---- what is dropped

  -- an inode that had a record and has none is one of those left out
  inode_left : (i : ℕ) → inode_of by_bytes v i ≢ none → inode_of by_bytes w i ≡ none → InodeDropped by_bytes v w i
  inode_left i n z = ⊎_elim (λ e. absurd (n (sym e ∙ z))) (λ x. x) (left.each_inode i)

  not_owned : (i : ℕ) → inode_of by_bytes v i ≢ none → inode_of by_bytes w i ≡ none → (b : Bytes) → Memᴰ b v.blocks → by_bytes.owner b ≢ i
  not_owned i n z b m e = go (inode_of by_bytes v i) refl
    where
      go : (o : Option Bytes) → inode_of by_bytes v i ≡ o → ⊥
      go none q = n q
      go (some r) q =
          let k = counting_mem by_bytes v.inodes i r q in
          kinds_apart by_bytes v (volume_sound image ds) r b k.0 m (k.1 ∙ sym ((inode_left i n z).unowned b m e))

  block_each : (i : ℕ) → (block_of by_bytes w i ≡ block_of by_bytes v i)
      ⊎ (((r : Bytes) × (block_of by_bytes v i ≡ some r) × (block_dead by_bytes v r ≡ true)) × (block_of by_bytes w i ≡ none))
  unfolding block_dead
  block_each i = ⊎_elim inl (λ x. go (block_of by_bytes v i) refl x) (left.each_block i)
    where
      go : (o : Option Bytes) → block_of by_bytes v i ≡ o → BlockDropped by_bytes v w i → (block_of by_bytes w i ≡ block_of by_bytes v i)
          ⊎ (((r : Bytes) × (block_of by_bytes v i ≡ some r) × (is_dead (fate_of by_bytes v (by_bytes.owner r)) ≡ true)) × (block_of by_bytes w i ≡ none))
      go none q x = inl (x.none_left ∙ sym q)
      go (some r) q x = inr ((r, q, ap is_dead (x.died r q)), x.none_left)

  inode_gone : (i : ℕ) → fate_of by_bytes v i ≡ dead
      → ((b : Bytes) → Memᴰ b (records_elsewhere image (file_areas image ds) s) → (record_id b ≢ i) × (record_link b ≢ i))
      → ((b : Bytes) → Memᴰ b (bytes_of (records_of image s)) → record_link b ≡ i → record_id b ≡ i)
      → inode_of by_bytes w i ≡ none
  unfolding volume
  inode_gone i died others own = counting_absent by_bytes w.inodes i gone
    where
      gone : (b : Bytes) → Memᴰ b w.inodes → record_id b ≢ i
      gone b m =
          let k = inode_in (accepted_records image' ds) b m in
          ⊎_elim (λ n. inode_not_copied v _ _ i died others own b n k.1) (λ n. (others b n).0) (c.moved.is b k.0)

  block_gone : (i : ℕ) (r : Bytes) → block_of by_bytes v i ≡ some r → block_dead by_bytes v r ≡ true
      → ((b : Bytes) → Memᴰ b (records_elsewhere image (file_areas image ds) s) → record_id b ≢ i) → block_of by_bytes w i ≡ none
  unfolding volume
  block_gone i r q died others = counting_absent by_bytes w.blocks i gone
    where
      gone : (b : Bytes) → Memᴰ b w.blocks → record_id b ≢ i
      gone b m e =
          let k = block_in (accepted_records image' ds) b m in
          ⊎_elim (λ n.
          let y : ◌≡◌ {A = Option Bytes} (some b) (some r) = sym (survive.block_counts b n k.1) ∙ ap (block_of by_bytes v) e ∙ q in
          let u : b ≡ r = cc in
          block_not_copied v _ _ i others b n k.1 (rw u died) e) (λ n. others b n e) (c.moved.is b k.0)

  -- ---- the file areas

  area_file : (d : Descriptor) → Memᴰ d (file_areas image' ds) ↔ ((d ≡ t) ⊎ (Memᴰ d (file_areas image ds) × (d ≢ s)))
  area_file d = (
    (λ m. ⊎_elim inl (λ h. inr (h.0, h.1)) (c.files d m)),
    ⊎_elim (λ e. rw e c.now_file) (λ h. c.still_files d h.0 h.1),
  )

  clean_still : (d : Descriptor) → Memᴰ d (file_areas image' ds) → (d ≢ t → area_clean record_size (area_bytes image d) ≡ true)
      → area_clean record_size (area_bytes image' d) ≡ true
  clean_still d m h = go (c.files d m)
    where
      go : (d ≡ t) ⊎ (Memᴰ d (file_areas image ds) × (d ≢ s) × (d ≢ t)) → area_clean record_size (area_bytes image' d) ≡ true
      go (inl e) = rw e c.clean
      go (inr k) = ap (area_clean record_size) (c.elsewhere d (file_listed image ds d k.0) k.2 k.1) ∙ h k.2

  after_collect : AfterCollect image image' ds
  after_collect = record {
    mounts = mounts image' ds still;
    scratch = t;
    source = s;
    was_scratch = g.one_scratch;
    chosen = g.source_is;
    was_file = from.0;
    as_long = from.1;
    is_source = from.2;
    now_file = c.now_file;
    takes_id = c.takes_id;
    keeps_count = c.keeps_count;
    filled = c.filled;
    copied = c.copied;
    clean = c.clean;
    now_scratch = scratch_now;
    emptied = c.emptied;
    files = area_file;
    elsewhere = c.elsewhere;
    stays_clean = clean_still;
    one_length = c.one_length;
    outside = c.outside;
    octets = c.octets;
    fewer = fewer;
    lives = λ i e. (stays_live by_bytes v w left i e, kept_inode by_bytes v w left i (λ q. live_not_dead (sym e ∙ q)));
    no_new_life = no_new_life by_bytes v w left;
    inodes = each;
    blocks = block_each;
    unnamed = λ i n z b m e. let x = inode_left i n z in
        ⊎_elim (λ k. x.unnamed b k e) (λ k. x.unowned b k e) (accepted_kind image ds b m);
    unowned = not_owned;
    inode_left_out = inode_gone;
    block_left_out = block_gone;
    contents = kept_contents by_bytes v w left;
    paths = same_paths;
    reads = same_reads;
  }
    where
      each : (i : ℕ) → ((inode_of by_bytes w i ≡ inode_of by_bytes v i) × (fate_of by_bytes w i ≡ fate_of by_bytes v i))
          ⊎ ((fate_of by_bytes v i ≡ dead) × (inode_of by_bytes w i ≡ none))
      each i = ⊎_elim (λ q. inl (q, kept_fate by_bytes v w left i q)) (λ x. inr (x.died, x.none_left)) (left.each_inode i)

pub collect : (image : Bytes) (ds : List Descriptor) → collect_of image ds ≡ 0 → AfterCollect image (image_collected image ds) ds
unfolding image_collected
collect image ds e = let g = collect_goes image ds e in rw (image_collected, g.goes) (after_collect image ds g)
