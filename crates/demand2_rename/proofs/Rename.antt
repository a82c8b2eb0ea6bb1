-- Rename and move. Document 02, T-01: "the inode is rewritten with the same id, sequence plus one, and the new parent and name".
use Rattle.std.specs.Prelude.{ℕ, ◌≡◌, ◌≢◌, Bool, true, cond, ◌||◌, length, eqb}
use Rattle.std.proofs.Common.{sym, ap, ◌∙◌, arith}
use Rattle.std.proofs.Math.Bool.{false, not}
use Rattle.std.proofs.Math.Option.{some}
use mathlib.Core.List.{List, [], ◌∷◌, ◌++◌, Memᴰ, append_assoc, append-nil}
use Rattle.format.specs.Bytes.{Bytes}
use Rattle.format.specs.Ids.{root_id, is_directory_id}
use Rattle.format_laws.specs.Crc.{Octets}
use Rattle.volume.specs.View.{by_bytes}
use Rattle.volume.specs.Counting.{Volume, inode_of}
use Rattle.volume.specs.Fate.{live, fate_of, lineage, names_of}
use Rattle.volume.specs.Path.{good_path, path_names}
use Rattle.volume.specs.Lists.{all}
use Rattle.volume.specs.Tree.{Found, found, absent, is_child, children, lookup_names}
use Rattle.volume_laws.specs.Tests.{eqb_false, not_is_false, or_is_false}
use Rattle.volume_laws.specs.Climb.{live_some}
use Rattle.calls.specs.Refusal.{◌refused_by◌, first_refusal}
use Rattle.calls.specs.Mount.{volume, mount_number}
use Rattle.calls.specs.Storing.{Store, is_among}
use Rattle.calls.specs.Create.{is_root, last_name, names_before}
use Rattle.calls.specs.Lookup.{resolve}
use Rattle.calls.specs.Rewrite.{last_sequence, sequence_of, rewritten, rewrite_plan, rewrite_checks}
use Rattle.calls.specs.Attempt.{number_of, attempt_at}
use Rattle.calls.specs.Rename.{moves_into_itself, move_number, moving, renaming, rename_of, image_renamed}
use Rattle.calls.specs.declared.Descriptor.{Descriptor}
use Rattle.calls_laws.specs.Checks.{Passes, passes, mounts}
use Rattle.calls_laws.specs.Records.{volume_sound}
use Rattle.calls_laws.specs.Attempt.{attempt_goes, never, found_never}
use Rattle.calls_laws.specs.Unused.{not_among}
use Rattle.demand2.specs.Names.{GoodName, good_name, last_mem, names_split}
use Rattle.demand2.specs.Found.{passed_check, root_there, directory_low, free_child, found_lives, names_found, found_once}
use Rattle.demand2.specs.Found.{path_eight, lookup_refused, resolved, resolve_good, resolve_found, resolve_alike, read_kept}
use Rattle.demand2.specs.Lineage.{found_named, found_sole, lookup_free}
use Rattle.demand2.proofs.NewRecord.{child_rule}
use Rattle.demand2.specs.Rewritten.{Rewrites, AfterRewrite}
use Rattle.demand2.proofs.Rewritten.{rewrite_checked, inode_low, rewrite}
use Rattle.demand2.proofs.Create.{name_checked}
use Rattle.demand2_rename.specs.Moved.{Moves, InodeMoved}
use Rattle.demand2_rename.proofs.Moved.{old_apart, new_apart, inode_moved}
use Rattle.demand2_rename.specs.Rename.{RenameGoes, AfterRename}

module _ (image : Bytes) (ds : List Descriptor) (base old new : Bytes) where
  -- the volume before
  abbrev before : Volume Bytes
  before = volume image ds

  -- the new names
  abbrev names : List Bytes
  names = path_names base new

  -- the checks of `move_number`
  checked : (i d : ℕ) → move_number image ds i d (last_name names) ≡ 0
      → (is_directory_id d ≡ true) × (length (children by_bytes before d (last_name names)) ≡ 0)
      × (i ≢ root_id) × (¬ Memᴰ i (lineage by_bytes before d))
      × (sequence_of (inode_of by_bytes before i) ≢ last_sequence) × (l : List Store) × (rewrite_plan image ds i d (last_name names) ≡ some l)
  unfolding move_number moves_into_itself first_refusal
  checked i d e =
      let rest = rewrite_checks image ds i d (last_name names) in
      let a = name_checked before d (last_name names) ((moves_into_itself before i d refused_by 18) ∷ rest) e in
      let b = passed_check (moves_into_itself before i d) 17 (first_refusal rest) a.2 in
      let c = or_is_false (eqb i root_id) (is_among i (lineage by_bytes before d)) b.0 in
      let f = rewrite_checked image ds i d (last_name names) b.1 in (
        a.0,
        a.1,
        eqb_false i root_id c.0,
        not_among i (lineage by_bytes before d) (λ t. rw c.1 at t),
        f.0,
        f.1,
        f.2,
      )

  -- those of both walks
  pub rename_goes : rename_of image ds base old new ≡ 0 → RenameGoes image ds base old new
  unfolding rename_of renaming moving attempt_at
  rename_goes e =
      let w = attempt_goes (mount_number image ds) (λ i. number_of (moving image ds names i))
      (not (good_path base old) || not (good_path base new) || is_root names)
      (lookup_names by_bytes before (path_names base old)) (lookup_refused by_bytes before (path_names base old)) e in
      let u = attempt_goes 0 (λ d. move_number image ds w.inode d (last_name names)) false
      (lookup_names by_bytes before (names_before names)) (lookup_refused by_bytes before (names_before names)) w.checked in
      let o = or_is_false (not (good_path base old) || not (good_path base new)) (is_root names) w.good in
      let q = or_is_false (not (good_path base old)) (not (good_path base new)) o.0 in
      let c = checked w.inode u.inode u.checked in
      record {
        mounted = w.mounted;
        good_old = not_is_false (good_path base old) q.0;
        good_new = not_is_false (good_path base new) q.1;
        named = eqb_false (length names) 0 o.1;
        inode = w.inode;
        found_there = w.found_there;
        directory = u.inode;
        found_above = u.found_there;
        is_directory = c.0;
        name_free = c.1;
        no_root_lem = c.2;
        outside = c.3;
        not_last = c.4;
        stores = c.5;
        placed = c.6;
        moves = u.goes_on;
        goes = w.goes_on;
      }

-- ---- what was found

module _ (image : Bytes) (ds : List Descriptor) (base old new : Bytes) (g : RenameGoes image ds base old new) where
  -- the new name was free
  free : (j : ℕ) → is_child by_bytes (volume image ds) g.directory (last_name (path_names base new)) j ≡ false
  free = free_child by_bytes (volume image ds) g.directory (last_name (path_names base new)) g.name_free

  -- the new names are those of the directory and then the new one
  split_new : (ns : List Bytes) → path_names base new ++ ns ≡ names_before (path_names base new) ++ (last_name (path_names base new) ∷ ns)
  split_new ns = ap (λ k. k ++ ns) (names_split (path_names base new) g.named)
      ∙ append_assoc (names_before (path_names base new)) (last_name (path_names base new) ∷ []) ns

  -- they do not begin with the old ones
  apart : (ns : List Bytes) → path_names base new ≢ path_names base old ++ ns
  apart ns e =
      new_apart by_bytes (volume image ds) (volume_sound image ds) g.inode g.directory (last_name (path_names base new)) g.is_directory
      g.outside free (names_before (path_names base new)) (path_names base old) g.found_above g.found_there ns
      (sym (names_split (path_names base new) g.named) ∙ e)

  -- nor these with those
  apart_old : (ns : List Bytes) → path_names base old ≢ path_names base new ++ ns
  apart_old ns e =
      old_apart by_bytes (volume image ds) (volume_sound image ds) g.inode g.directory (last_name (path_names base new)) g.is_directory
      g.outside free (names_before (path_names base new)) (path_names base old) g.found_above g.found_there ns (e ∙ split_new ns)

-- a rename to a path that begins with the old one is refused
pub own_beginning : (image : Bytes) (ds : List Descriptor) (base old new : Bytes) (ns : List Bytes) → path_names base new ≡ path_names base old ++ ns
    → rename_of image ds base old new ≢ 0
own_beginning image ds base old new ns e z = apart image ds base old new (rename_goes image ds base old new z) ns e

-- ---- the numbers that it gives

-- "For a write, 5 is tested again": a rename makes no new id, and never answers 5
pub never_five : (image : Bytes) (ds : List Descriptor) (base old new : Bytes) → mount_number image ds ≡ 0 → rename_of image ds base old new ≢ 5
unfolding rename_of renaming moving attempt_at move_number all
never_five image ds base old new m e =
    found_never 5 _ (cond bad (absent 8) (lookup_names by_bytes (volume image ds) (path_names base old))) (λ z. omega arith) (led bad (path_names base old))
    (λ i. found_never 5 _ (lookup_names by_bytes (volume image ds) (names_before names)) (λ z. omega arith) (led false (names_before names))
    (λ d. never 5 _ (λ z. omega arith) tt)) (rw (rename_of, renaming, attempt_at, m) at e)
  where
    names : List Bytes
    names = path_names base new

    bad : Bool
    bad = not (good_path base old) || not (good_path base new) || is_root names

    led : (b : Bool) (ns : List Bytes) (r : ℕ) → cond b (absent 8) (lookup_names by_bytes (volume image ds) ns) ≡ absent r → r ≢ 5
    led b ns r q z = omega (arith, path_eight by_bytes (volume image ds) b ns r q)

-- ---- what it makes of the image

module _ (image : Bytes) (ds : List Descriptor) (base old new : Bytes) (octets_image : Octets image) (octets_base : Octets base)
    (octets_new : Octets new) (g : RenameGoes image ds base old new) where
  -- the checks of the mount, before
  p : Passes image ds
  p = passes image ds g.mounted

  -- the volume before
  abbrev v : Volume Bytes
  v = volume image ds

  -- the inode, the directory and the new name
  abbrev i : ℕ
  i = g.inode

  abbrev d : ℕ
  d = g.directory

  abbrev name : Bytes
  name = last_name (path_names base new)

  -- the new record
  abbrev b : Bytes
  b = rewritten v i d name

  -- the image afterwards
  abbrev image' : Bytes
  image' = image_renamed image ds base old new

  -- the volume afterwards
  abbrev w : Volume Bytes
  w = volume image' ds

  -- the record of the root
  root : (r : Bytes) × (inode_of by_bytes v root_id ≡ some r)
  root = root_there v p.root

  -- the inode lives
  lives : fate_of by_bytes v i ≡ live
  lives = found_lives by_bytes v root.0 root.1 (path_names base old) i g.found_there

  -- and so does the directory
  above_lives : fate_of by_bytes v d ≡ live
  above_lives = found_lives by_bytes v root.0 root.1 (names_before (path_names base new)) d g.found_above

  -- the record that counted
  was : (r : Bytes) × (inode_of by_bytes v i ≡ some r)
  was = live_some by_bytes v i lives

  -- the new name is one that an inode may bear
  called : GoodName name
  called = good_name base new octets_base octets_new g.good_new name (last_mem (path_names base new) g.named)

  -- what is asked of a rewrite
  asked : Rewrites image ds i d name
  asked = record {
    mounted = g.mounted;
    record_before = was.0;
    counted = was.1;
    not_last = g.not_last;
    stores = g.stores;
    placed = g.placed;
    parent_fits = omega (arith, directory_low d g.is_directory);
    name_fits = called.fits;
    rule = child_rule i d (length name) (inode_low image ds i was.0 was.1) g.no_root_lem g.is_directory called.some_bytes;
    good = called.good;
    name_octets = called.octets;
  }

  -- what holds of every inode rewritten
  done : AfterRewrite image image' ds i d name
  unfolding image_renamed
  done = rw (image_renamed, g.goes, g.moves) (rewrite image ds i d name octets_image asked)

  -- the old path has a name, since the inode is not the root
  old_named : length (path_names base old) ≢ 0
  old_named = found_named by_bytes v (path_names base old) i g.no_root_lem g.found_there

  -- what is asked of a move
  moves : Moves by_bytes v w b
  moves = record {
    newer = done.newer;
    sound = volume_sound image ds;
    lived = rw done.is.id_is lives;
    no_root_lem = rw done.is.id_is g.no_root_lem;
    directory = rw done.is.parent_is g.is_directory;
    above = rw done.is.parent_is above_lives;
    outside = rw (done.is.id_is, done.is.parent_is) g.outside;
    free = rw (done.is.parent_is, done.is.name_is) (free image ds base old new g);
    alone = rw done.is.id_is (found_sole by_bytes v (path_names base old) i old_named g.found_there);
  }

  -- what becomes of the volume
  now : InodeMoved by_bytes v w i d name
  now = rw (done.is.id_is, done.is.parent_is, done.is.name_is) at (inode_moved by_bytes v w b moves)

  -- the image still mounts
  still : mount_number image' ds ≡ 0
  still = mounts image' ds done.passes

  -- a good path is answered as its names are looked up
  answered : (c q : Bytes) (o : Found) → good_path c q ≡ true → lookup_names by_bytes w (path_names c q) ≡ o → resolve image' ds c q ≡ o
  answered c q o r z = resolve_good image' ds c q still r ∙ z

  -- the new names, and what goes on from them
  new_found : (ns : List Bytes) → lookup_names by_bytes w (path_names base new ++ ns) ≡ lookup_names by_bytes v (path_names base old ++ ns)
  new_found ns = ap (lookup_names by_bytes w) (split_new image ds base old new g ns)
      ∙ now.at_new (names_before (path_names base new)) (path_names base old) ns g.found_above g.found_there

  -- what is found bears the names that it was found by
  bears : (ns : List Bytes) (j : ℕ) → lookup_names by_bytes v ns ≡ found j → names_of by_bytes v j ≡ ns
  bears = names_found by_bytes v (volume_sound image ds) root.0 root.1

  -- only the names of the old path lead to the inode, and only those before the last of the new one to the directory
  same_elsewhere : (l : List Bytes) → ((ns : List Bytes) → l ≢ path_names base old ++ ns) → ((ns : List Bytes) → l ≢ path_names base new ++ ns)
      → lookup_names by_bytes w l ≡ lookup_names by_bytes v l
  same_elsewhere l not_old not_new = now.elsewhere l
      (λ ms rest f e. not_new rest (e ∙ ap (λ k. k ++ (name ∷ rest)) (once ms (names_before (path_names base new)) d f g.found_above)
      ∙ sym (split_new image ds base old new g rest)))
      (λ ms rest f e. not_old rest (e ∙ ap (λ k. k ++ rest) (once ms (path_names base old) i f g.found_there)))
    where
      once : (ns ms : List Bytes) (j : ℕ) → lookup_names by_bytes v ns ≡ found j → lookup_names by_bytes v ms ≡ found j → ns ≡ ms
      once = found_once by_bytes v (volume_sound image ds) root.0 root.1

  -- of what is at or below it the new names replace the old ones
  replaced : (j : ℕ) → Memᴰ i (lineage by_bytes v j)
      → (ns : List Bytes) × (names_of by_bytes v j ≡ path_names base old ++ ns) × (names_of by_bytes w j ≡ path_names base new ++ ns)
  replaced j m =
      let t = now.below_names j m in
      let old_names = bears (path_names base old) i g.found_there in
      let above_names = bears (names_before (path_names base new)) d g.found_above in (
        t.0,
        t.1 ∙ ap (λ k. k ++ t.0) old_names,
        t.2 ∙ ap (λ k. k ++ t.0) (now.own_names ∙ ap (λ k. k ++ (name ∷ [])) above_names ∙ sym (names_split (path_names base new) g.named)),
      )

  -- and it is found by them
  moved : (c q : Bytes) (j : ℕ) → resolve image ds c q ≡ found j → Memᴰ i (lineage by_bytes v j)
      → (ns : List Bytes) × (path_names c q ≡ path_names base old ++ ns)
      × ((a o : Bytes) → good_path a o ≡ true → path_names a o ≡ path_names base new ++ ns → resolve image' ds a o ≡ found j)
  moved c q j e m =
      let f = resolve_found image ds c q j g.mounted e in
      let t = replaced j m in
      let z : path_names c q ≡ path_names base old ++ t.0 = sym (bears (path_names c q) j f.1) ∙ t.1 in (
        t.0,
        z,
        λ a o r k. answered a o (found j) r (ap (lookup_names by_bytes w) k ∙ new_found t.0 ∙ ap (lookup_names by_bytes v) (sym z) ∙ f.1),
      )

  -- all of it
  after_rename : AfterRename image image' ds base old new
  after_rename = record {
    mounts = still;
    inode = i;
    found_at_old = resolve_good image ds base old g.mounted g.good_old ∙ g.found_there;
    directory = d;
    above = g.found_above;
    new_apart = apart image ds base old new g;
    old_apart = apart_old image ds base old new g;
    was_free = λ c q ns r e. resolve_good image ds c q g.mounted r ∙ ap (lookup_names by_bytes v) (e ∙ split_new image ds base old new g ns)
        ∙ lookup_free by_bytes v d name g.is_directory (free image ds base old new g) (names_before (path_names base new)) ns g.found_above;
    at_new = λ c q ns r e. answered c q _ r (ap (lookup_names by_bytes w) e ∙ new_found ns);
    found_at_new = answered base new (found i) g.good_new
        (ap (lookup_names by_bytes w) (sym (append-nil (path_names base new))) ∙ new_found []
        ∙ ap (lookup_names by_bytes v) (append-nil (path_names base old)) ∙ g.found_there);
    old_gone = λ c q ns r e. answered c q (absent 9) r (ap (lookup_names by_bytes w) e ∙ now.at_old (path_names base old) ns g.found_there);
    elsewhere = λ c q not_old not_new. resolve_alike image image' ds c q g.mounted still (λ e. same_elsewhere (path_names c q) not_old not_new);
    bad_paths = λ c q r. resolved image' ds c q still ∙ rw r;
    paths = λ c q j e b. let f = resolve_found image ds c q j g.mounted e in
        answered c q (found j) f.0 (now.stays (path_names c q) j f.1 b);
    moved_paths = moved;
    reads = λ j. read_kept image image' ds g.mounted still j (now.fates j) (done.contents j);
    contents = done.contents;
    fates = now.fates;
    ids = now.ids;
    live_ones = now.live_ones;
    below = now.below;
    was_below = now.was_below;
    new_names = replaced;
    same_names = now.names;
    same_lineages = now.lineages;
    new_lineage = now.own_lineage;
    counts = done.here;
    inodes = done.others;
    is = done.is;
    went = done.went;
    stored = done.stored;
    same_areas = done.same_areas;
    clean_after = done.clean_after;
    octets = done.octets;
  }

-- of any accepted rename; image, base and new path are bytes
pub rename : (image : Bytes) (ds : List Descriptor) (base old new : Bytes) → Octets image → Octets base → Octets new
    → rename_of image ds base old new ≡ 0 → AfterRename image (image_renamed image ds base old new) ds base old new
rename image ds base old new oi ob on e = after_rename image ds base old new oi ob on (rename_goes image ds base old new e)
