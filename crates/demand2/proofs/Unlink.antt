-- Unlink. Document 01: "Unlink writes a deletion record, sequence plus one, no name; what lies below a directory goes with it."
use Rattle.std.specs.Prelude.{ℕ, ◌≡◌, refl, ◌≢◌, ◌⊎◌, Bool, true, false, not, ◌||◌, length}
use Rattle.std.proofs.Common.{sym, ◌∙◌, inl, inr, ⊎_elim, arith, lt→ltb}
use Rattle.std.proofs.Math.Path.{ap}
use Rattle.std.proofs.Math.Option.{some}
use mathlib.Core.List.Memᴰ
use mathlib.Core.List.{List, [], ◌++◌, Memᴰ}
use Rattle.std.proofs.Math.Dec.{T, ltb}
use Rattle.format.specs.Bytes.{Bytes}
use Rattle.format.specs.Ids.{NONE, first_block_id, root_id, is_inode_id}
use Rattle.format.specs.Record.{record_id, inode_rule, name_good}
use Rattle.format_laws.specs.Crc.{Octets}
use Rattle.format_laws.specs.Encoding.{octets_none}
use Rattle.volume.specs.View.{by_bytes}
use Rattle.volume.specs.Counting.{Volume, inode_of}
use Rattle.volume.specs.Fate.{live, dead, fate_of, lineage}
use Rattle.volume.specs.Path.{good_path, path_names}
use Rattle.volume.specs.Lists.{one, only}
use Rattle.volume.specs.Tree.{Found, found, absent, is_child, children, lookup_names}
use Rattle.volume_laws.specs.Tests.{T→true, eqb_false, eqb_differ, not_is_false, or_is_false}
use Rattle.volume_laws.specs.Climb.{live_some}
use Rattle.volume_laws.specs.Tree.{lookup_append}
use Rattle.calls.specs.Mount.{volume, mount_number}
use Rattle.calls.specs.Create.{is_root}
use Rattle.calls.specs.Lookup.{resolve}
use Rattle.calls.specs.Read.{give}
use Rattle.calls.specs.Rewrite.{rewritten, rewrite_plan, rewrite_number}
use Rattle.calls.specs.Unlink.{deletion, unlink_one, unlinking, unlink_of, image_unlinked}
use Rattle.calls.specs.declared.Descriptor.{Descriptor}
use Rattle.calls_laws.specs.Checks.{Passes, passes, mounts}
use Rattle.calls_laws.specs.Records.{volume_sound}
use Rattle.calls_laws.specs.Attempt.{attempt_goes}
use Rattle.demand2.specs.Found.{lookup_refused, root_there, found_lives, found_once}
use Rattle.demand2.specs.Found.{resolved, resolve_good, resolve_found, resolve_alike, read_given_lem, read_kept}
use Rattle.demand2.specs.Lineage.{found_no_root, found_sole}
use Rattle.demand2.specs.Deletion.{InodeGone}
use Rattle.demand2.proofs.Deletion.{inode_gone}
use Rattle.demand2.specs.Rewritten.{Rewrites, AfterRewrite}
use Rattle.demand2.proofs.Rewritten.{rewrite_checked, inode_low, rewrite}
use Rattle.demand2.specs.Unlink.{UnlinkGoes, AfterUnlink}

module _ (image : Bytes) (ds : List Descriptor) (base path : Bytes) where
  abbrev before : Volume Bytes
  before = volume image ds

  abbrev names : List Bytes
  names = path_names base path

  pub unlink_goes : unlink_of image ds base path ≡ 0 → UnlinkGoes image ds base path
  unfolding unlink_of unlinking unlink_one rewrite_number rewrite_plan deletion
  unlink_goes e =
      let w = attempt_goes (mount_number image ds) (unlink_one image ds) (not (good_path base path) || is_root names)
      (lookup_names by_bytes before names) (lookup_refused by_bytes before names) e in
      let o = or_is_false (not (good_path base path)) (is_root names) w.good in
      let c = rewrite_checked image ds w.inode NONE [] w.checked in
      record {
        mounted = w.mounted;
        good = not_is_false (good_path base path) o.0;
        named = eqb_false (length names) 0 o.1;
        inode = w.inode;
        found_there = w.found_there;
        not_last = c.0;
        stores = c.1;
        placed = c.2;
        goes = w.goes_on;
      }

-- ---- the theorem

module _ (image : Bytes) (ds : List Descriptor) (base path : Bytes) (octets_image : Octets image) (g : UnlinkGoes image ds base path) where
  p : Passes image ds
  p = passes image ds g.mounted

  abbrev v : Volume Bytes
  v = volume image ds

  abbrev i : ℕ
  i = g.inode

  -- the deletion record
  abbrev b : Bytes
  b = rewritten v i NONE []

  abbrev image' : Bytes
  image' = image_unlinked image ds base path

  abbrev w : Volume Bytes
  w = volume image' ds

  root : (r : Bytes) × (inode_of by_bytes v root_id ≡ some r)
  root = root_there v p.root

  lives : fate_of by_bytes v i ≡ live
  lives = found_lives by_bytes v root.0 root.1 (path_names base path) i g.found_there

  -- the record that counted
  was : (r : Bytes) × (inode_of by_bytes v i ≡ some r)
  was = live_some by_bytes v i lives

  no_root_lem : i ≢ root_id
  no_root_lem = found_no_root by_bytes v (volume_sound image ds) (path_names base path) i g.named g.found_there

  -- no parent and no name are such as an inode other than the root may bear
  asked : Rewrites image ds i NONE []
  unfolding rewrite_plan deletion inode_rule is_inode_id name_good
  asked = record {
    mounted = g.mounted;
    record_before = was.0;
    counted = was.1;
    not_last = g.not_last;
    stores = g.stores;
    placed = g.placed;
    parent_fits = omega arith;
    name_fits = omega arith;
    rule = rw (T→true {b = ltb i first_block_id} (lt→ltb i first_block_id (inode_low image ds i was.0 was.1)), eqb_differ i root_id no_root_lem);
    good = refl;
    name_octets = octets_none;
  }

  -- what holds of every inode rewritten
  done : AfterRewrite image image' ds i NONE []
  unfolding image_unlinked
  done = rw (image_unlinked, g.goes) (rewrite image ds i NONE [] octets_image asked)

  -- the deletion record bears the inode's id
  id_is : record_id b ≡ i
  id_is = done.is.id_is

  -- the image still mounts
  still : mount_number image' ds ≡ 0
  still = mounts image' ds done.passes

  -- in the lineage, by the record's id
  own : (j : ℕ) → Memᴰ i (lineage by_bytes v j) → Memᴰ (record_id b) (lineage by_bytes v j)
  own j m = Memᴰ.cast id_is m

  other : (j : ℕ) → ¬ Memᴰ i (lineage by_bytes v j) → ¬ Memᴰ (record_id b) (lineage by_bytes v j)
  other j n m = n (Memᴰ.cast (sym id_is) m)

  not_root : record_id b ≢ root_id
  not_root e = no_root_lem (sym id_is ∙ e)

  lived : fate_of by_bytes v (record_id b) ≡ live
  lived = ap (fate_of by_bytes v) id_is ∙ lives

  now : InodeGone by_bytes v w b
  now = inode_gone by_bytes v w b done.newer (volume_sound image ds) not_root done.is.parent_is lived

  outside : (j : ℕ) → ¬ Memᴰ i (lineage by_bytes v j) → fate_of by_bytes w j ≡ fate_of by_bytes v j
  outside j n = now.outside j (other j n)

  below : (j : ℕ) → Memᴰ i (lineage by_bytes v j) → fate_of by_bytes w j ≡ dead
  below j m = now.below j (own j m)

  answers : (c q : Bytes) (o : Found) → good_path c q ≡ true → lookup_names by_bytes w (path_names c q) ≡ o → resolve image' ds c q ≡ o
  answers c q o r z = resolve_good image' ds c q still r ∙ z

  gone : lookup_names by_bytes w (path_names base path) ≡ absent 9
  unfolding lineage
  gone = now.lost (path_names base path) i g.found_there
      (own i (Memᴰ.head refl))

  after_unlink : AfterUnlink image image' ds base path
  unfolding deletion give
  after_unlink = record {
    mounts = still;
    inode = i;
    found_at_path = resolve_good image ds base path g.mounted g.good ∙ g.found_there;
    path_lost = λ c q ns r e. answers c q (absent 9) r (ap (lookup_names by_bytes w) e ∙ lookup_append by_bytes w (path_names base path) ns ∙ rw gone);
    elsewhere = same_elsewhere;
    bad_paths = λ c q r. resolved image' ds c q still ∙ rw r;
    dies = below;
    lost = λ c q j e m. let f = resolve_found image ds c q j g.mounted e in
        answers c q (absent 9) f.0 (now.lost (path_names c q) j f.1
        (own j m));
    unread = λ j m position room. read_given_lem image' ds still j position room ∙ rw (give, below j m);
    paths = λ c q j e n. let f = resolve_found image ds c q j g.mounted e in
        answers c q (found j) f.0 (now.stays (path_names c q) j f.1
        (other j n));
    reads = λ j n. read_kept image image' ds g.mounted still j (outside j n) (done.contents j);
    otherwise = either;
    stays = outside;
    no_new_life = now.no_life;
    not_live = now.unlive;
    deleted = done.here;
    inodes = done.others;
    contents = done.contents;
    is = done.is;
    went = done.went;
    stored = done.stored;
    same_areas = done.same_areas;
    clean_after = done.clean_after;
    octets = done.octets;
  }
    where
      alone : (e : ℕ) (n : Bytes) → T (is_child by_bytes v e n (record_id b)) → only (children by_bytes v e n) ≡ one (record_id b)
      alone e n t =
          let u : T (is_child by_bytes v e n i) = rw id_is at t in
          found_sole by_bytes v (path_names base path) i g.named g.found_there e n u ∙ ap one (sym id_is)

      -- a lookup that came by it went by the unlinked names
      same_elsewhere : (c q : Bytes) → ((ns : List Bytes) → path_names c q ≢ path_names base path ++ ns)
          → resolve image' ds c q ≡ resolve image ds c q
      same_elsewhere c q n = resolve_alike image image' ds c q g.mounted still
          (λ e. now.elsewhere alone (path_names c q) (λ ms rest f z.
          let same_names : ms ≡ path_names base path
          = found_once by_bytes v (volume_sound image ds) root.0 root.1 ms (path_names base path) i (f ∙ ap found id_is) g.found_there in
          n rest (z ∙ ap (λ l. l ++ rest) same_names)))

      either : (c q : Bytes) → (resolve image' ds c q ≡ resolve image ds c q) ⊎ (resolve image' ds c q ≡ absent 9)
      either c q = go (good_path c q) refl
        where
          go : (t : Bool) → good_path c q ≡ t → (resolve image' ds c q ≡ resolve image ds c q) ⊎ (resolve image' ds c q ≡ absent 9)
          go true r = ⊎_elim
              (λ z. inl (answers c q (lookup_names by_bytes v (path_names c q)) r z ∙ sym (resolve_good image ds c q g.mounted r)))
              (λ z. inr (answers c q (absent 9) r z))
              (now.either alone (path_names c q))
          go false r = inl (resolved image' ds c q still ∙ rw r (sym (resolved image ds c q g.mounted ∙ rw r)))

pub unlink : (image : Bytes) (ds : List Descriptor) (base path : Bytes) → Octets image → unlink_of image ds base path ≡ 0
    → AfterUnlink image (image_unlinked image ds base path) ds base path
unlink image ds base path o e = after_unlink image ds base path o (unlink_goes image ds base path e)
