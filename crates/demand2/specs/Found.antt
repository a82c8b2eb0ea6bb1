-- What a lookup tells: what it finds is live and found by these names alone, and what it answers otherwise is 9, 10 or 11. Paths and reads of images
-- that mount.
use Prim.Native.Nat.{ℕ, suc, ◌+◌, ◌≤◌, ◌<◌}
use Rattle.std.proofs.Math.Path.{◌≡◌, refl, sym, ap}
use Rattle.std.proofs.Common.{◌∙◌, inl, inr, ltb→lt}
use Rattle.std.specs.Prelude.{◌≢◌, Bool, cond, not, eqb}
use Rattle.std.proofs.Math.Bool.{true, false}
use Rattle.std.proofs.Math.Option.{Option, none, some}
use mathlib.Core.List.Memᴰ
use mathlib.Core.List.{List, [], ◌∷◌, ◌++◌, Memᴰ, append-nil, append_assoc}
use native.Mathlib.Omega.{arith}
use Rattle.std.proofs.Math.ListN.{length}
use Rattle.std.proofs.Math.Dec.{T, eqb→eq}
use Rattle.format.specs.Bytes.{Bytes}
use Rattle.format.specs.Ids.{NONE, root_id, first_file_id, is_directory_id}
use Rattle.volume.specs.Lists.{same, has, Only, nobody, several, one, only}
use Rattle.volume.specs.View.{View, by_bytes}
use Rattle.volume.specs.Counting.{Volume, inode_of, inode_ids}
use Rattle.volume.specs.Fate.{live, is_live, ascend, climb, longest_chain, fate_of, names_of}
use Rattle.volume.specs.Contents.{file_blocks}
use Rattle.volume.specs.Tree.{found, absent, onward, is_entry, is_child, children, walk, lookup_names}
use Rattle.volume.specs.Path.{good_path, path_names}
use Rattle.volume_laws.specs.Tests.{true→T, not_T→false, and_T, eqb_differ, has_some}
use Rattle.volume_laws.specs.Lists.{keep_none, same_eq}
use Rattle.volume_laws.specs.Once.{nodup_keep, alike_only}
use Rattle.volume_laws.specs.Counting.{counting_mem, ids_of_lem}
use Rattle.volume_laws.specs.Climb.{climb_stop, climb_on, is_live_lem, fate_own, live_within}
use Rattle.volume_laws.specs.Tree.{mem_children, children_mem}
use Rattle.volume_laws.specs.Sound.{Sound}
use Rattle.calls.specs.Mount.{volume, no_root, mount_number}
use Rattle.calls.specs.Lookup.{resolve}
use Rattle.calls.specs.Read.{give, read_given}
use Rattle.calls.specs.declared.Descriptor.{Descriptor}

-- a check with a number other than 0 that refuses nothing
pub passed_check : (b : Bool) (n m : ℕ) → cond b (suc n) m ≡ 0 → (b ≡ false) × (m ≡ 0)
passed_check true n m e = absurd (omega arith)
passed_check false n m e = (refl, e)

-- the root of a volume that has one
pub root_there : (v : Volume Bytes) → no_root v ≡ false → (r : Bytes) × (inode_of by_bytes v root_id ≡ some r)
unfolding no_root
root_there v e = go (inode_of by_bytes v root_id) refl e
  where
    go : (o : Option Bytes) → inode_of by_bytes v root_id ≡ o → not (has (λ r. true) o) ≡ false → (r : Bytes) × (inode_of by_bytes v root_id ≡ some r)
    go none q z = let y : ◌≡◌ {A = ℕ} 0 1 = cc in absurd (omega arith)
    go (some r) q z = (r, q)

-- a directory has an id below those of files
pub directory_low : (d : ℕ) → is_directory_id d ≡ true → d < first_file_id
unfolding is_directory_id
directory_low d e = ltb→lt d first_file_id (true→T e)

module _ {A : Type 0} (F : View A) (v : Volume A) where
  -- the chain of parents ends at the root
  root_ends : (r : A) → inode_of F v root_id ≡ some r → ascend F (inode_of F v root_id) ≡ inl live
  unfolding ascend
  root_ends r e = rw (e, ascend, (counting_mem F v.inodes root_id r e).1)

  pub root_lives : (r : A) → inode_of F v root_id ≡ some r → fate_of F v root_id ≡ live
  root_lives r e = fate_own F v root_id live (root_ends r e)

  -- the step that a walk took
  pub record Stepped (d : ℕ) (n : Bytes) (ns : List Bytes) (j : ℕ) : Type 0 where
    pub directory : is_directory_id d ≡ true
    pub child : ℕ
    pub only_child : only (children F v d n) ≡ one child
    pub goes_on : walk F v child ns ≡ found j

  pub stepped : (d : ℕ) (n : Bytes) (ns : List Bytes) (j : ℕ) → walk F v d (n ∷ ns) ≡ found j → Stepped d n ns j
  unfolding walk
  stepped d n ns j q = go (is_directory_id d) refl (only (children F v d n)) refl q
    where
      go : (b : Bool) → is_directory_id d ≡ b → (o : Only ℕ) → only (children F v d n) ≡ o → onward b o (λ i. walk F v i ns) ≡ found j
          → Stepped d n ns j
      go false a o b q = let z : ◌≡◌ {A = ℕ} 0 1 = cc in absurd (omega arith)
      go true a nobody b q = let z : ◌≡◌ {A = ℕ} 0 1 = cc in absurd (omega arith)
      go true a several b q = let z : ◌≡◌ {A = ℕ} 0 1 = cc in absurd (omega arith)
      go true a (one x) b q = record { directory = a; child = x; only_child = b; goes_on = q }

  -- the one child of a name
  pub sole : (d : ℕ) (n : Bytes) (x : ℕ) → only (children F v d n) ≡ one x
      → T (is_child F v d n x) × ((y : ℕ) → T (is_child F v d n y) → y ≡ x)
  unfolding only
  sole d n x q = go (children F v d n) (mem_children F v d n) (children_mem F v d n) q
    where
      go : (es : List ℕ) → ((y : ℕ) → T (is_child F v d n y) → Memᴰ y es) → ((y : ℕ) → Memᴰ y es → T (is_child F v d n y)) → only es ≡ one x
          → T (is_child F v d n x) × ((y : ℕ) → T (is_child F v d n y) → y ≡ x)
      go [] f g q = let z : ◌≡◌ {A = ℕ} 0 1 = cc in absurd (omega arith)
      go (y ∷ []) f g q = let z : y ≡ x = cc in rw (← z) (g y (Memᴰ.head refl), λ u t. Memᴰ.eq_of_singleton (f u t))
      go (y ∷ u ∷ es) f g q = let z : ◌≡◌ {A = ℕ} 0 1 = cc in absurd (omega arith)

  -- and back
  pub sole_child : (d : ℕ) (n : Bytes) (x : ℕ) → T (is_child F v d n x) → ((y : ℕ) → T (is_child F v d n y) → y ≡ x)
      → only (children F v d n) ≡ one x
  unfolding only children
  sole_child d n x t h = alike_only (children F v d n) (x ∷ []) (record {
    nodup_l = nodup_keep (is_child F v d n) (inode_ids F v) (ids_of_lem F v.inodes).nodup;
    nodup_m = (Memᴰ.not-nil, tt);
    to = λ y m. Memᴰ.head (h y (children_mem F v d n y m));
    back = λ y m. rw (Memᴰ.eq_of_singleton m) (mem_children F v d n x t);
  })

  -- no child of a name
  pub no_child : (d : ℕ) (n : Bytes) → ((y : ℕ) → ¬ T (is_child F v d n y)) → only (children F v d n) ≡ nobody
  unfolding only children
  no_child d n h = ap only (keep_none (is_child F v d n) (inode_ids F v) (λ y m. not_T→false (h y)))

  -- a name that is free in a directory
  pub free_child : (d : ℕ) (n : Bytes) → length (children F v d n) ≡ 0 → (y : ℕ) → is_child F v d n y ≡ false
  free_child d n e y = not_T→false (λ t. none_in (children F v d n) e (mem_children F v d n y t))
    where
      none_in : (l : List ℕ) → length l ≡ 0 → ¬ Memᴰ y l
      none_in [] e m = Memᴰ.not-nil m
      none_in (x ∷ l) e m = omega arith

  pub child_lives : (d : ℕ) (n : Bytes) (x : ℕ) → T (is_child F v d n x) → fate_of F v x ≡ live
  unfolding is_child
  child_lives d n x t = is_live_lem (fate_of F v x) (and_T (has (is_entry F d n) (inode_of F v x)) (is_live (fate_of F v x)) t).1

  walk_lives : (d : ℕ) (ns : List Bytes) (j : ℕ) → fate_of F v d ≡ live → walk F v d ns ≡ found j → fate_of F v j ≡ live
  unfolding walk
  walk_lives d [] j l q = let z : d ≡ j = cc in rw (← z) l
  walk_lives d (n ∷ ns) j l q =
      let s = stepped d n ns j q in
      walk_lives s.child ns j (child_lives d n s.child (sole d n s.child s.only_child).0) s.goes_on

  -- what is found is live
  pub found_lives : (r : A) → inode_of F v root_id ≡ some r → (ns : List Bytes) (j : ℕ) → lookup_names F v ns ≡ found j → fate_of F v j ≡ live
  unfolding lookup_names
  found_lives r e ns j q = walk_lives root_id ns j (root_lives r e) q

  -- the chain of parents goes on above an inode that is not the root and has a parent
  pub goes_on : (x : ℕ) (s : A) → inode_of F v x ≡ some s → F.id s ≢ root_id → F.parent s ≢ NONE → ascend F (inode_of F v x) ≡ inr s
  unfolding ascend
  goes_on x s e r n = rw (e, ascend, eqb_differ (F.id s) root_id r, eqb_differ (F.parent s) NONE n)

  -- from a child to its directory
  pub child_above : Sound F v → (d : ℕ) (n : Bytes) (x : ℕ) → is_directory_id d ≡ true → T (is_child F v d n x)
      → (s : A) × (ascend F (inode_of F v x) ≡ inr s) × (F.parent s ≡ d) × (F.name s ≡ n)
  unfolding is_child is_entry
  child_above sound d n x e t =
      let h = has_some (is_entry F d n) (inode_of F v x) (and_T (has (is_entry F d n) (inode_of F v x)) (is_live (fate_of F v x)) t).0 in
      let u = and_T (eqb (F.parent h.0) d) (same (F.name h.0) n) h.2 in
      let p : F.parent h.0 ≡ d = eqb→eq (F.parent h.0) d u.0 in
      let m = (counting_mem F v.inodes x h.0 h.1).0 in
      let some_parent : F.parent h.0 ≢ NONE = λ z. omega (arith, p, directory_low d e) in
      (h.0, goes_on x h.0 h.1 (λ z. some_parent (sound.root_parent h.0 m z)) some_parent, p, same_eq (F.name h.0) n u.1)

  -- the names gathered along at most k parents
  abbrev names_within : ℕ → ℕ → List Bytes
  names_within = climb F (λ f. []) (λ r l. l ++ (F.name r ∷ [])) (inode_of F v)

  -- they are the names that a walk went by
  walk_names : Sound F v → (k d : ℕ) (ns : List Bytes) (j : ℕ) → walk F v d ns ≡ found j
      → names_within (length ns + k) j ≡ names_within k d ++ ns
  unfolding walk
  walk_names sound k d [] j q =
      let z : j ≡ d = cc in
      let count : length {A = Bytes} [] + k ≡ k = omega arith in
      ap (λ m. names_within m j) count ∙ ap (names_within k) z ∙ sym (append-nil (names_within k d))
  walk_names sound k d (n ∷ ns) j q =
      let s = stepped d n ns j q in
      let c = child_above sound d n s.child s.directory (sole d n s.child s.only_child).0 in
      let one_more : names_within (suc k) s.child ≡ names_within k d ++ (n ∷ [])
      = climb_on F (λ f. []) (λ r l. l ++ (F.name r ∷ [])) (inode_of F v) k s.child c.0 c.1
      ∙ ap (λ i. names_within k i ++ (F.name c.0 ∷ [])) c.2 ∙ ap (λ m. names_within k d ++ (m ∷ [])) c.3 in
      let count : suc (length ns) + k ≡ length ns + suc k = omega arith in
      ap (λ m. names_within m j) count ∙ walk_names sound (suc k) s.child ns j s.goes_on
      ∙ ap (λ l. l ++ ns) one_more ∙ append_assoc (names_within k d) (n ∷ []) ns

  -- what is found has the names that it was found by
  pub names_found : Sound F v → (r : A) → inode_of F v root_id ≡ some r → (ns : List Bytes) (j : ℕ) → lookup_names F v ns ≡ found j → names_of F v j ≡ ns
  unfolding lookup_names names_of
  names_found sound r e ns j q =
      let k = longest_chain F v in
      sym (live_within F (λ f. []) (λ r l. l ++ (F.name r ∷ [])) v (length ns + suc k) j (omega arith) (found_lives r e ns j q))
      ∙ walk_names sound (suc k) root_id ns j q
      ∙ ap (λ l. l ++ ns) (climb_stop F (λ f. []) (λ r l. l ++ (F.name r ∷ [])) (inode_of F v) k root_id live (root_ends r e))

  -- so that an inode is found by one list of names
  pub found_once : Sound F v → (r : A) → inode_of F v root_id ≡ some r → (ns ms : List Bytes) (j : ℕ)
      → lookup_names F v ns ≡ found j → lookup_names F v ms ≡ found j → ns ≡ ms
  found_once sound r e ns ms j p q = sym (names_found sound r e ns j p) ∙ names_found sound r e ms j q

  walk_refused : (d : ℕ) (ns : List Bytes) (k : ℕ) → walk F v d ns ≡ absent k → 9 ≤ k
  unfolding walk
  walk_refused d [] k q = let z : ◌≡◌ {A = ℕ} 0 1 = cc in absurd (omega arith)
  walk_refused d (n ∷ ns) k q = go (is_directory_id d) (only (children F v d n)) q (λ i. walk_refused i ns k)
    where
      go : (b : Bool) (o : Only ℕ) → onward b o (λ i. walk F v i ns) ≡ absent k → ((i : ℕ) → walk F v i ns ≡ absent k → 9 ≤ k) → 9 ≤ k
      go false o q ih = let z : 11 ≡ k = cc in omega arith
      go true nobody q ih = let z : 9 ≡ k = cc in omega arith
      go true several q ih = let z : 10 ≡ k = cc in omega arith
      go true (one i) q ih = ih i q

  -- a lookup that finds nothing is answered by 9 at least
  pub lookup_nine : (ns : List Bytes) (k : ℕ) → lookup_names F v ns ≡ absent k → 9 ≤ k
  unfolding lookup_names
  lookup_nine = walk_refused root_id

  -- and with 8 for a bad path, by 8 at least
  pub path_eight : (bad : Bool) (ns : List Bytes) (k : ℕ) → cond bad (absent 8) (lookup_names F v ns) ≡ absent k → 8 ≤ k
  path_eight true ns k q = let z : 8 ≡ k = cc in omega arith
  path_eight false ns k q = omega (arith, lookup_nine ns k q)

  pub lookup_refused : (ns : List Bytes) (k : ℕ) → lookup_names F v ns ≡ absent k → k ≢ 0
  lookup_refused ns k q z = omega (arith, lookup_nine ns k q)

-- a path in an image that mounts
pub resolved : (image : Bytes) (ds : List Descriptor) (base p : Bytes) → mount_number image ds ≡ 0
    → resolve image ds base p ≡ cond (good_path base p) (lookup_names by_bytes (volume image ds) (path_names base p)) (absent 8)
unfolding resolve
resolved image ds base p m = rw (resolve, m)

-- a good one is answered as its names are looked up
pub resolve_good : (image : Bytes) (ds : List Descriptor) (base p : Bytes) → mount_number image ds ≡ 0 → good_path base p ≡ true
    → resolve image ds base p ≡ lookup_names by_bytes (volume image ds) (path_names base p)
resolve_good image ds base p m g = resolved image ds base p m ∙ rw g

-- and one that finds an inode is good
pub resolve_found : (image : Bytes) (ds : List Descriptor) (base p : Bytes) (j : ℕ) → mount_number image ds ≡ 0 → resolve image ds base p ≡ found j
    → (good_path base p ≡ true) × (lookup_names by_bytes (volume image ds) (path_names base p) ≡ found j)
resolve_found image ds base p j m e = go (good_path base p) refl (sym (resolved image ds base p m) ∙ e)
  where
    go : (b : Bool) → good_path base p ≡ b → cond b (lookup_names by_bytes (volume image ds) (path_names base p)) (absent 8) ≡ found j
        → (good_path base p ≡ true) × (lookup_names by_bytes (volume image ds) (path_names base p) ≡ found j)
    go true g q = (g, q)
    go false g q = let z : ◌≡◌ {A = ℕ} 0 1 = cc in absurd (omega arith)

-- two images that mount: where the lookups agree, the paths do
pub resolve_alike : (image image' : Bytes) (ds : List Descriptor) (base p : Bytes) → mount_number image ds ≡ 0 → mount_number image' ds ≡ 0
    → (good_path base p ≡ true → lookup_names by_bytes (volume image' ds) (path_names base p) ≡ lookup_names by_bytes (volume image ds) (path_names base p))
    → resolve image' ds base p ≡ resolve image ds base p
resolve_alike image image' ds base p m n h =
    resolved image' ds base p n ∙ go (good_path base p) refl ∙ sym (resolved image ds base p m)
  where
    go : (b : Bool) → good_path base p ≡ b → cond b (lookup_names by_bytes (volume image' ds) (path_names base p)) (absent 8)
        ≡ cond b (lookup_names by_bytes (volume image ds) (path_names base p)) (absent 8)
    go true e = h e
    go false e = refl

-- a read of an image that mounts
pub read_given_lem : (image : Bytes) (ds : List Descriptor) → mount_number image ds ≡ 0 → (i position room : ℕ)
    → read_given image ds i position room ≡ give (volume image ds) i position room
unfolding read_given
read_given_lem image ds m i position room = rw (read_given, m)

module _ (image image' : Bytes) (ds : List Descriptor) (m : mount_number image ds ≡ 0) (n : mount_number image' ds ≡ 0) (i : ℕ) where
  -- two images that mount: where what is given agrees, the reads do
  pub read_alike : (position room : ℕ) → give (volume image' ds) i position room ≡ give (volume image ds) i position room
      → read_given image' ds i position room ≡ read_given image ds i position room
  read_alike position room e = read_given_lem image' ds n i position room ∙ e ∙ sym (read_given_lem image ds m i position room)

  -- as it does of an inode that has its fate and its blocks
  pub read_kept : fate_of by_bytes (volume image' ds) i ≡ fate_of by_bytes (volume image ds) i
      → file_blocks by_bytes (volume image' ds) i ≡ file_blocks by_bytes (volume image ds) i
      → (position room : ℕ) → read_given image' ds i position room ≡ read_given image ds i position room
  unfolding give
  read_kept f c position room = read_alike position room (rw (give, f, c))
