-- What one stored record makes of the volume, and that the image still mounts.
use Rattle.std.specs.Prelude.{ℕ, ◌≤◌, ◌<◌, ◌≡◌, ◌⊎◌, Bool, length, T, ltb}
use Rattle.std.proofs.Math.Path.{refl}
use Rattle.std.proofs.Common.{ap, ◌∙◌, ⊎_elim, arith, nltb→le, ltb→lt}
use Rattle.std.proofs.Math.Logic.{inl, inr}
use Rattle.std.proofs.Math.Bool.{true, false, not}
use Rattle.std.proofs.Math.Option.{some}
use mathlib.Core.List.{List, Memᴰ}
use Rattle.format.specs.Bytes.{Bytes}
use Rattle.format.specs.Ids.{root_id}
use Rattle.format.specs.Record.{record_id, record_sequence}
use Rattle.volume.specs.Lists.{keep}
use Rattle.volume.specs.View.{by_bytes}
use Rattle.volume.specs.Counting.{Volume, volume_of, inode_of, inode_ids, block_ids}
use Rattle.volume_laws.specs.Tests.{true→T, T→true, not_T→false, or_is_false}
use Rattle.volume_laws.specs.Lists.{keep_mem, mem_keep, same_refl, same_eq}
use Rattle.volume_laws.specs.Counting.{Agree, agree_test, test_agree, agree_sub, counting_mem, counting_some}
use Rattle.calls.specs.Areas.{file_areas}
use Rattle.calls.specs.Mount.{accepted_records, volume, most_inodes, most_blocks, shared_area_id, too_many_ids, no_root}
use Rattle.calls.specs.declared.Descriptor.{Descriptor}
use Rattle.calls_laws.specs.Checks.{Passes}
use Rattle.demand2.specs.Store.{OneStored}
use Rattle.demand2.proofs.Store.{file_listed, same_file_areas, same_scratch_areas, same_area_ids, same_described, records_old}
use Rattle.demand2.proofs.Store.{records_new, records_only}
use Rattle.demand2.specs.Found.{root_there}
use Rattle.demand2.specs.Added.{Same, Added}
use Rattle.demand2.proofs.Added.{added_agree}

-- ---- check 6 before

module _ (image : Bytes) (ds : List Descriptor) (p : Passes image ds) where
  pub agreed : Agree by_bytes (accepted_records image ds)
  agreed = agree_test by_bytes same_eq (accepted_records image ds) (true→T p.agree)

  pub agreed_inodes : Agree by_bytes (volume image ds).inodes
  unfolding volume volume_of
  agreed_inodes = agree_sub by_bytes (accepted_records image ds) _ (λ b m. (keep_mem _ (accepted_records image ds) m).0) agreed

  pub agreed_blocks : Agree by_bytes (volume image ds).blocks
  unfolding volume volume_of
  agreed_blocks = agree_sub by_bytes (accepted_records image ds) _ (λ b m. (keep_mem _ (accepted_records image ds) m).0) agreed

-- the records of a volume are those accepted
module _ (image : Bytes) (ds : List Descriptor) (r : Bytes) where
  pub inode_accepted : Memᴰ r (volume image ds).inodes → Memᴰ r (accepted_records image ds)
  unfolding volume volume_of
  inode_accepted m = (keep_mem _ (accepted_records image ds) m).0

  pub accepted_kind : Memᴰ r (accepted_records image ds) → Memᴰ r (volume image ds).inodes ⊎ Memᴰ r (volume image ds).blocks
  unfolding volume volume_of
  accepted_kind m = go (by_bytes.is_block r) refl
    where
      go : (b : Bool) → by_bytes.is_block r ≡ b → Memᴰ r (volume_of by_bytes (accepted_records image ds)).inodes
          ⊎ Memᴰ r (volume_of by_bytes (accepted_records image ds)).blocks
      go true e = inr (mem_keep by_bytes.is_block (accepted_records image ds) m (true→T e))
      go false e = inl (mem_keep (λ r. not (by_bytes.is_block r)) (accepted_records image ds) m (rw e tt))

-- ---- check 7: a volume that has the records of another has its root

pub root_kept : (v w : Volume Bytes) → ((r : Bytes) → Memᴰ r v.inodes → Memᴰ r w.inodes) → no_root v ≡ false → no_root w ≡ false
unfolding no_root
root_kept v w sub e =
    let r = root_there v e in
    let m = counting_mem by_bytes v.inodes root_id r.0 r.1 in
    let s = counting_some by_bytes w.inodes r.0 (sub r.0 m.0) in
    let t : inode_of by_bytes w root_id ≡ some s.0 = rw m.1 at s.1 in
    rw t

-- ---- check 5

pub few_ids : (v : Volume Bytes) → length (inode_ids by_bytes v) ≤ most_inodes → length (block_ids by_bytes v) ≤ most_blocks → too_many_ids v ≡ false
unfolding too_many_ids
few_ids v a b = rw (within most_inodes _ a, within most_blocks _ b)
  where
    within : (most n : ℕ) → n ≤ most → ltb most n ≡ false
    within most n h = not_T→false (λ t. let l = ltb→lt most n t in omega arith)

pub ids_few : (v : Volume Bytes) → too_many_ids v ≡ false → (length (inode_ids by_bytes v) ≤ most_inodes) × (length (block_ids by_bytes v) ≤ most_blocks)
unfolding too_many_ids
ids_few v e =
    let o = or_is_false (ltb most_inodes (length (inode_ids by_bytes v))) (ltb most_blocks (length (block_ids by_bytes v))) e in
    (nltb→le most_inodes _ (rw o.0 tt), nltb→le most_blocks _ (rw o.1 tt))

-- ---- one record stored

-- filtered lists, by members
module _ {A : Type 0} (f : A → Bool) (rs ss : List A) where
  pub keep_old : ((r : A) → Memᴰ r rs → Memᴰ r ss) → (r : A) → Memᴰ r (keep f rs) → Memᴰ r (keep f ss)
  keep_old h r m = let n = keep_mem f rs m in mem_keep f ss (h r n.0) n.1

  pub keep_only : (b : A) → ((r : A) → Memᴰ r ss → (r ≡ b) ⊎ Memᴰ r rs)
      → (r : A) → Memᴰ r (keep f ss) → (r ≡ b) ⊎ Memᴰ r (keep f rs)
  keep_only b h r m = let n = keep_mem f ss m in ⊎_elim inl (λ o. inr (mem_keep f rs o n.1)) (h r n.0)

  -- the new one does not pass
  pub keep_same : (b : A) → f b ≡ false → ((r : A) → Memᴰ r ss → (r ≡ b) ⊎ Memᴰ r rs)
      → (r : A) → Memᴰ r (keep f ss) → Memᴰ r (keep f rs)
  keep_same b k h r m =
      let n = keep_mem f ss m in
      ⊎_elim (λ e. absurd (fails e n.1)) (λ o. mem_keep f rs o n.1) (h r n.0)
    where
      fails : r ≡ b → T (f r) → ⊥
      fails e t = let z : f r ≡ false = ap f e ∙ k in rw z at t

module _ {image image' : Bytes} {ds : List Descriptor} {area : Descriptor} {b : Bytes} (s : OneStored image image' ds area b)
    (f : Memᴰ area (file_areas image ds))
    (newer : (r : Bytes) → Memᴰ r (accepted_records image ds) → record_id r ≡ record_id b → record_sequence r < record_sequence b) where
  accepted_added : Added by_bytes (accepted_records image ds) (accepted_records image' ds) b
  accepted_added = record { old = records_old s; new = records_new s f; only = records_only s; newer = newer }

  kind_added : (k : Bytes → Bool) → k b ≡ true → Added by_bytes (keep k (accepted_records image ds)) (keep k (accepted_records image' ds)) b
  kind_added k e = record {
    old = keep_old k (accepted_records image ds) (accepted_records image' ds) (records_old s);
    new = mem_keep k (accepted_records image' ds) (records_new s f) (true→T e);
    only = keep_only k (accepted_records image ds) (accepted_records image' ds) b (records_only s);
    newer = λ r m. newer r (keep_mem k (accepted_records image ds) m).0;
  }

  kind_same : (k : Bytes → Bool) → k b ≡ false → Same (keep k (accepted_records image ds)) (keep k (accepted_records image' ds))
  kind_same k e = record {
    to = keep_old k (accepted_records image ds) (accepted_records image' ds) (records_old s);
    back = keep_same k (accepted_records image ds) (accepted_records image' ds) b e (records_only s);
  }

  -- an inode is stored
  module _ (k : by_bytes.is_block b ≡ false) where
    pub inodes_added : Added by_bytes (volume image ds).inodes (volume image' ds).inodes b
    unfolding volume volume_of
    inodes_added = kind_added (λ r. not (by_bytes.is_block r)) (ap not k)

    pub blocks_same : Same (volume image ds).blocks (volume image' ds).blocks
    unfolding volume volume_of
    blocks_same = kind_same by_bytes.is_block k

  -- a block is stored
  module _ (k : by_bytes.is_block b ≡ true) where
    pub blocks_added : Added by_bytes (volume image ds).blocks (volume image' ds).blocks b
    unfolding volume volume_of
    blocks_added = kind_added by_bytes.is_block k

    pub inodes_same : Same (volume image ds).inodes (volume image' ds).inodes
    unfolding volume volume_of
    inodes_same = kind_same (λ r. not (by_bytes.is_block r)) (ap not k)

  -- checks 1 to 7 pass, but for 5, which the call asks
  pub still_passes : Passes image ds → too_many_ids (volume image' ds) ≡ false → Passes image' ds
  unfolding shared_area_id volume volume_of
  still_passes p few = record {
    described = same_described s ∙ p.described;
    own_ids = rw (same_file_areas s, same_area_ids s (file_areas image ds) (file_listed image ds)) p.own_ids;
    areas = rw (same_file_areas s, same_scratch_areas s) p.areas;
    scratch = rw (same_file_areas s, same_scratch_areas s) p.scratch;
    few = few;
    agree = T→true (test_agree by_bytes same_refl (accepted_records image' ds) (added_agree by_bytes _ _ b accepted_added (agreed image ds p)));
    root = root_kept (volume image ds) (volume image' ds) sub p.root;
  }
    where
      sub : (r : Bytes) → Memᴰ r (volume image ds).inodes → Memᴰ r (volume image' ds).inodes
      sub = keep_old (λ r. not (by_bytes.is_block r)) (accepted_records image ds) (accepted_records image' ds) (records_old s)
