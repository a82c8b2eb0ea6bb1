-- Create. Demand 2: "Creating .. do[es] what is written there, and everything else that could be reached by path reads as before."
use Rattle.std.specs.Prelude.{ℕ, suc, ◌+◌, ◌≤◌, ◌<◌, ◌≡◌, ◌≢◌, Bool, not, ◌||◌, ltb}
use Rattle.std.proofs.Math.Path.{refl, sym}
use Rattle.std.proofs.Common.{ap, ◌∙◌, ⊎_elim, lt→ltb}
use Rattle.std.proofs.Math.Bool.{true, false, cond}
use Rattle.std.proofs.Math.Option.{Option, some}
use mathlib.Core.List.{List, [], ◌∷◌, ◌++◌, Memᴰ, append_assoc}
use native.Mathlib.Omega.{arith}
use Rattle.std.proofs.Math.ListN.{length}
use Rattle.std.proofs.Math.Dec.{eqb, nltb→le, ltb→lt}
use Rattle.format.specs.Bytes.{Bytes}
use Rattle.format.specs.Ids.{root_id, first_file_id, is_directory_id, first_block_id, is_inode_id}
use Rattle.format.specs.Record.{record_id}
use Rattle.format.specs.Encoding.{inode_bytes}
use Rattle.format_laws.specs.Crc.{Octets}
use Rattle.format_laws.specs.Encoding.{MeantInode}
use Rattle.volume.specs.View.{by_bytes}
use Rattle.volume.specs.Counting.{Volume, inode_of, inode_ids}
use Rattle.volume.specs.Path.{good_path, path_names}
use Rattle.volume.specs.Tree.{found, absent, children, walk, lookup_names, is_child}
use Rattle.volume.specs.Fate.{live, fate_of}
use Rattle.volume.specs.Contents.{file_blocks}
use Rattle.volume_laws.specs.Tests.{eqb_false, not_is_false, or_is_false, T→true, not_T→false}
use Rattle.volume_laws.specs.Counting.{counting_mem}
use Rattle.volume_laws.specs.Tree.{lookup_append}
use Rattle.calls.specs.Refusal.{Check, ◌refused_by◌, first_refusal}
use Rattle.calls.specs.Areas.{file_areas}
use Rattle.calls.specs.Mount.{most_inodes, volume, mount_number, accepted_records}
use Rattle.calls.specs.Storing.{Store, spaces, place_all, no_place, named_ids}
use Rattle.calls.specs.Create.{last_name, names_before, is_root, first_id_of, new_id, new_inode, name_checks, create_in, creating, create_of, image_created}
use Rattle.calls.specs.declared.Descriptor.{Descriptor}
use Rattle.calls.specs.Lookup.{resolve}
use Rattle.calls.specs.Read.{given, refused, give, read_given}
use Rattle.calls_laws.specs.Checks.{Passes, passes, mounts}
use Rattle.calls_laws.specs.Records.{volume_sound}
use Rattle.calls_laws.specs.Attempt.{attempt_goes}
use Rattle.demand2.specs.Added.{Same, Added}
use Rattle.demand2.proofs.Added.{added_ids, same_count, same_contents}
use Rattle.demand2.proofs.Mounted.{agreed_inodes, agreed_blocks, accepted_kind, few_ids, ids_few, inodes_added, blocks_same, still_passes}
use Rattle.demand2.specs.NewInode.{InodeNew}
use Rattle.demand2.proofs.NewInode.{inode_new}
use Rattle.demand2.specs.Store.{OneStored}
use Rattle.demand2.proofs.Store.{one_stored, same_file_areas, same_clean}
use Rattle.demand2.proofs.Places.{place_found}
use Rattle.calls_laws.specs.Unused.{Smallest, unused_smallest}
use Rattle.demand2.specs.Unused.{Unused}
use Rattle.demand2.proofs.Unused.{unnamed_unused, named_used, few_named}
use Rattle.demand2.specs.Names.{GoodName, good_name, last_mem, names_split}
use Rattle.demand2.specs.Found.{passed_check, lookup_refused, root_there, directory_low, free_child, found_lives, found_once}
use Rattle.demand2.specs.Found.{resolved, resolve_alike, read_given_lem, read_kept}
use Rattle.demand2.specs.NewRecord.{IsInode, WrittenOne}
use Rattle.demand2.proofs.NewRecord.{child_rule, inode_made, one_placed, octets_one, no_blocks}
use Rattle.demand2.specs.Create.{CreateGoes, AfterCreate}
use Rattle.demand2.proofs.EmptyFile.{empty_given}

-- a new name that was not refused: below a directory, where it is free
pub name_checked : (v : Volume Bytes) (d : ℕ) (n : Bytes) (l : List Check) → first_refusal (name_checks v d n ++ l) ≡ 0
    → (is_directory_id d ≡ true) × (length (children by_bytes v d n) ≡ 0) × (first_refusal l ≡ 0)
unfolding first_refusal
name_checked v d n l e =
    let a = passed_check (not (is_directory_id d)) 10 _ e in
    let b = passed_check (ltb 0 (length (children by_bytes v d n))) 11 _ a.1 in
    (not_is_false (is_directory_id d) a.0, omega (arith, nltb→le 0 (length (children by_bytes v d n)) (rw b.0 tt)), b.1)

module _ (image : Bytes) (ds : List Descriptor) (base path : Bytes) (kind : ℕ) where
  abbrev names : List Bytes
  names = path_names base path

  abbrev before : Volume Bytes
  before = volume image ds

  abbrev placing : ℕ → Option (List Store)
  placing d = place_all (spaces image (file_areas image ds)) (new_inode before kind d (last_name names) ∷ [])

  -- the checks of `create_in`
  checked : (d : ℕ) → create_in image ds kind d (last_name names) ≡ 0
      → (is_directory_id d ≡ true) × (length (children by_bytes before d (last_name names)) ≡ 0) × (suc (length (inode_ids by_bytes before)) ≤ most_inodes)
      × (l : List Store) × (placing d ≡ some l)
  unfolding create_in first_refusal
  checked d e =
      let a = name_checked before d (last_name names)
      ((ltb most_inodes (suc (length (inode_ids by_bytes before))) refused_by 5) ∷ (no_place (placing d) refused_by 15) ∷ []) e in
      let c = passed_check (ltb most_inodes (suc (length (inode_ids by_bytes before)))) 4 _ a.2 in
      let f = passed_check (no_place (placing d)) 14 0 c.1 in
      let g = place_found (placing d) f.0 in (
        a.0,
        a.1,
        nltb→le most_inodes (suc (length (inode_ids by_bytes before))) (rw c.0 tt),
        g.0,
        g.1,
      )

  pub create_goes : (create_of image ds base path kind).number ≡ 0 → CreateGoes image ds base path kind
  unfolding create_of creating
  create_goes e =
      let w = attempt_goes (mount_number image ds) (λ d. create_in image ds kind d (last_name names)) (not (good_path base path) || is_root names)
      (lookup_names by_bytes before (names_before names)) (lookup_refused by_bytes before (names_before names)) e in
      let o = or_is_false (not (good_path base path)) (is_root names) w.good in
      let c = checked w.inode w.checked in
      record {
        mounted = w.mounted;
        good = not_is_false (good_path base path) o.0;
        named = eqb_false (length names) 0 o.1;
        directory = w.inode;
        found_there = w.found_there;
        is_directory = c.0;
        name_free = c.1;
        few = c.2;
        stores = c.3;
        placed = c.4;
        goes = w.goes_on;
      }

-- ---- the theorem

module _ (image : Bytes) (ds : List Descriptor) (base path : Bytes) (kind : ℕ) (octets_base : Octets base) (octets_path : Octets path)
    (g : CreateGoes image ds base path kind) where
  p : Passes image ds
  p = passes image ds g.mounted

  abbrev v : Volume Bytes
  v = volume image ds

  abbrev name : Bytes
  name = last_name (path_names base path)

  abbrev id : ℕ
  id = new_id (volume image ds) kind

  abbrev b : Bytes
  b = inode_bytes id 0 g.directory name

  least_id : Smallest (first_id_of kind) (named_ids v) id
  unfolding new_id
  least_id = unused_smallest (first_id_of kind) (named_ids v)

  free_id : Unused v id
  free_id = unnamed_unused v id least_id.unused

  -- the id is in its range
  ranged : (id < first_block_id) × (is_directory_id id ≡ eqb kind 0)
  unfolding first_id_of is_directory_id
  ranged = go (eqb kind 0) refl least_id.from least_id.near
    where
      go : (t : Bool) → eqb kind 0 ≡ t → cond t root_id first_file_id ≤ id → id ≤ cond t root_id first_file_id + length (named_ids v)
          → (id < first_block_id) × (ltb id first_file_id ≡ eqb kind 0)
      go true e l h =
          let n = few_named image ds p.described in
          (omega arith, T→true (lt→ltb id first_file_id (omega arith)) ∙ sym e)
      go false e l h =
          let n = few_named image ds p.described in
          (omega arith, not_T→false (λ t. let k = ltb→lt id first_file_id t in omega arith) ∙ sym e)

  root : (r : Bytes) × (inode_of by_bytes v root_id ≡ some r)
  root = root_there v p.root

  no_root_lem : id ≢ root_id
  no_root_lem e =
      let m = counting_mem by_bytes v.inodes root_id root.0 root.1 in
      free_id.no_inode root.0 m.0 (m.1 ∙ sym e)

  called : GoodName name
  called = good_name base path octets_base octets_path g.good name (last_mem (path_names base path) g.named)

  low : g.directory < first_file_id
  low = directory_low g.directory g.is_directory

  meant : MeantInode id 0 g.directory name
  meant = record {
    id_fits = omega (arith, ranged.0);
    sequence_fits = omega arith;
    parent_fits = omega (arith, low);
    name_fits = called.fits;
    rule = child_rule id g.directory (length name) ranged.0 no_root_lem g.is_directory called.some_bytes;
    good = called.good;
    octets = called.octets;
  }

  is : IsInode b id 0 g.directory name
  is = inode_made id 0 g.directory name meant

  abbrev image' : Bytes
  image' = image_created image ds base path kind

  went_one : WrittenOne image image' ds b
  unfolding image_created new_inode
  went_one = rw (image_created, g.goes, g.placed) (one_placed image ds p.described b g.stores g.placed)

  stored_one : OneStored image image' ds went_one.area b
  stored_one = rw went_one.image_is (one_stored image ds p.described went_one.area b went_one.fits is.whole)

  -- no record has the id
  unborn : (r : Bytes) → Memᴰ r (accepted_records image ds) → record_id r ≢ record_id b
  unborn r m e = ⊎_elim
      (λ k. free_id.no_inode r k (e ∙ is.id_is)) (λ k. free_id.no_block r k (e ∙ is.id_is)) (accepted_kind image ds r m)

  added : Added by_bytes v.inodes (volume image' ds).inodes b
  added = inodes_added stored_one went_one.fits.file (λ r m e. absurd (unborn r m e)) is.no_block

  kept_blocks : Same v.blocks (volume image' ds).blocks
  kept_blocks = blocks_same stored_one went_one.fits.file (λ r m e. absurd (unborn r m e)) is.no_block

  still : Passes image' ds
  still = still_passes stored_one went_one.fits.file (λ r m e. absurd (unborn r m e)) p
      (few_ids (volume image' ds)
      (omega (arith, added_ids by_bytes v.inodes (volume image' ds).inodes b added (agreed_inodes image ds p), g.few))
      (omega (arith, same_count by_bytes v.blocks (volume image' ds).blocks kept_blocks (agreed_blocks image ds p), (ids_few v p.few).1)))

  no_inode : (r : Bytes) → Memᴰ r v.inodes → record_id r ≢ record_id b
  no_inode r m e = free_id.no_inode r m (e ∙ is.id_is)

  no_parent : (r : Bytes) → Memᴰ r v.inodes → by_bytes.parent r ≢ record_id b
  no_parent r m e = free_id.no_parent r m (e ∙ is.id_is)

  -- the directory is live, and has no child of that name
  above_lives : fate_of by_bytes v (by_bytes.parent b) ≡ live
  above_lives = rw is.parent_is (found_lives by_bytes v root.0 root.1 (names_before (path_names base path)) g.directory g.found_there)

  free_name : (j : ℕ) → is_child by_bytes v (by_bytes.parent b) (by_bytes.name b) j ≡ false
  free_name j = rw (is.parent_is, is.name_is) (free_child by_bytes v g.directory name g.name_free j)

  born_other : (i : ℕ) → i ≢ id → i ≢ record_id b
  born_other i n e = n (e ∙ is.id_is)

  now : InodeNew by_bytes v (volume image' ds) b
  now = inode_new by_bytes v (volume image' ds) b added (agreed_inodes image ds p) no_inode no_parent (rw is.id_is no_root_lem)
      (rw is.parent_is (λ e. omega (arith, low))) above_lives (rw is.parent_is g.is_directory) free_name

  new_fates : (i : ℕ) → i ≢ id → fate_of by_bytes (volume image' ds) i ≡ fate_of by_bytes v i
  new_fates i n = now.fates i (born_other i n)

  new_contents : (f : ℕ) → file_blocks by_bytes (volume image' ds) f ≡ file_blocks by_bytes v f
  new_contents = same_contents by_bytes v (volume image' ds) kept_blocks (agreed_blocks image ds p)

  split_names : path_names base path ≡ names_before (path_names base path) ++ (name ∷ [])
  split_names = names_split (path_names base path) g.named

  it_found : lookup_names by_bytes (volume image' ds) (path_names base path) ≡ found id
  it_found = ap (lookup_names by_bytes (volume image' ds)) split_names
      ∙ (rw (is.name_is, is.id_is) at (now.found_there (names_before (path_names base path)) (g.found_there ∙ ap found (sym is.parent_is))))

  is_empty : file_blocks by_bytes (volume image' ds) id ≡ some []
  is_empty = new_contents id ∙ no_blocks by_bytes v id free_id.no_owner

  new_reads : (position room : ℕ) → read_given image' ds id position room
      ≡ cond (eqb kind 0) (refused 11) (cond (eqb position 0) (given [] 0) (refused 14))
  unfolding give
  new_reads position room =
      let l : fate_of by_bytes (volume image' ds) id ≡ live = rw is.id_is at now.lives in
      read_given_lem image' ds (mounts image' ds still) id position room ∙ rw (give, l, ranged.1, is_empty, empty_given position room)

  -- nothing is below it
  none_below : (n : Bytes) (ns : List Bytes)
      → lookup_names by_bytes (volume image' ds) (path_names base path ++ (n ∷ ns)) ≡ absent (cond (eqb kind 0) 9 11)
  none_below n ns =
      let under : walk by_bytes (volume image' ds) id (n ∷ ns) ≡ absent (cond (is_directory_id id) 9 11) = rw is.id_is at (now.below n ns) in
      rw (lookup_append by_bytes (volume image' ds) (path_names base path) (n ∷ ns), it_found, under, ranged.1)

  -- a lookup that took the new name in its directory went by the created names
  by_the_path : (l ms rest : List Bytes) → lookup_names by_bytes v ms ≡ found (by_bytes.parent b) → l ≡ ms ++ (by_bytes.name b ∷ rest)
      → l ≡ path_names base path ++ rest
  by_the_path l ms rest f e =
      let same_names : ms ≡ names_before (path_names base path)
      = found_once by_bytes v (volume_sound image ds) root.0 root.1 ms (names_before (path_names base path)) g.directory
      (f ∙ ap found is.parent_is) g.found_there in
      e ∙ ap (λ k. k ++ (by_bytes.name b ∷ rest)) same_names ∙ ap (λ m. names_before (path_names base path) ++ (m ∷ rest)) is.name_is
      ∙ sym (append_assoc (names_before (path_names base path)) (name ∷ []) rest) ∙ ap (λ k. k ++ rest) (sym split_names)

  after_create : AfterCreate image image' ds base path kind id
  unfolding is_inode_id
  after_create = record {
    mounts = mounts image' ds still;
    smallest = least_id;
    unused = free_id;
    least = λ j h k. named_used v j (least_id.smallest j h k);
    an_inode = T→true (lt→ltb id first_block_id ranged.0);
    of_kind = ranged.1;
    lives = rw is.id_is at now.lives;
    found_at_path = new_path base path g.good refl;
    found_at_names = new_path;
    empty = is_empty;
    reads_new = new_reads;
    paths = same_paths;
    elsewhere = same_elsewhere;
    below = nothing_below;
    reads = λ i n. read_kept image image' ds g.mounted (mounts image' ds still) i (new_fates i n) (new_contents i);
    inodes = λ i n. now.inodes i (born_other i n);
    fates = new_fates;
    contents = new_contents;
    directory = g.directory;
    above = g.found_there;
    counts = rw is.id_is at now.counts;
    went = went_one;
    stored = stored_one;
    same_areas = same_file_areas stored_one;
    clean_after = same_clean stored_one went_one.fits.clean;
    octets = octets_one went_one is.octets;
  }
    where
      new_path : (c q : Bytes) → good_path c q ≡ true → path_names c q ≡ path_names base path → resolve image' ds c q ≡ found id
      new_path c q t e = resolved image' ds c q (mounts image' ds still) ∙ rw (t, e) it_found

      same_paths : (c q : Bytes) → resolve image ds c q ≢ absent 9 → resolve image' ds c q ≡ resolve image ds c q
      same_paths c q n = resolve_alike image image' ds c q g.mounted (mounts image' ds still)
          (λ e. now.lookups (path_names c q) (λ z. n (resolved image ds c q g.mounted ∙ rw (e, z))))

      same_elsewhere : (c q : Bytes) → ((ns : List Bytes) → path_names c q ≢ path_names base path ++ ns)
          → resolve image' ds c q ≡ resolve image ds c q
      same_elsewhere c q n = resolve_alike image image' ds c q g.mounted (mounts image' ds still)
          (λ e. now.elsewhere (path_names c q) (λ ms rest f z. n rest (by_the_path (path_names c q) ms rest f z)))

      nothing_below : (c q n : Bytes) (ns : List Bytes) → good_path c q ≡ true → path_names c q ≡ path_names base path ++ (n ∷ ns)
          → resolve image' ds c q ≡ absent (cond (eqb kind 0) 9 11)
      nothing_below c q n ns t e = resolved image' ds c q (mounts image' ds still) ∙ rw (t, e) (none_below n ns)

-- "Create is told file or directory and answers the new id"
pub create : (image : Bytes) (ds : List Descriptor) (base path : Bytes) (kind : ℕ) → Octets base → Octets path
    → (create_of image ds base path kind).number ≡ 0
    → AfterCreate image (image_created image ds base path kind) ds base path kind (create_of image ds base path kind).id
unfolding create_of
create image ds base path kind ob op e =
    let g = create_goes image ds base path kind e in
    rw g.goes (after_create image ds base path kind ob op g)
