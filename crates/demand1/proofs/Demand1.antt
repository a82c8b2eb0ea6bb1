-- Demand 1 is proved. Nothing is asked of image, area list, paths and data, not even that they be bytes.
use Rattle.std.specs.Prelude.{ℕ, zero, suc, ◌+◌, ◌-◌, ◌≤◌, ◌≡◌, refl, Bool, true, false, cond, length, take, drop, eqb, leb}
use Rattle.std.proofs.Common.{◌∙◌, inl, inr, arith, length-append, length-take, length-drop, get_or-append-add, get_or-drop}
use Rattle.std.proofs.Math.Option.{Option, none, some}
use mathlib.Core.List.{List, [], ◌∷◌, ◌++◌}
use Rattle.format.specs.Bytes.{Bytes, byte_at}
use Rattle.format.specs.Ids.{NONE, is_directory_id}
use Rattle.volume.specs.View.{by_bytes}
use Rattle.volume.specs.Fate.{is_live, fate_of}
use Rattle.volume.specs.Contents.{file_blocks, text_of}
use Rattle.volume.specs.Path.{path_names}
use Rattle.volume.specs.Tree.{found, lookup_names}
use Rattle.calls.specs.Mount.{volume, mount_number}
use Rattle.calls.specs.Read.{Given, given, refused, give_blocks, give_file, give, read_given}
use Rattle.calls.specs.Lookup.{resolve}
use Rattle.calls.specs.Create.{last_name, names_before, new_inode, create_of, image_created}
use Rattle.calls.specs.Append.{new_blocks, append_of, image_appended}
use Rattle.calls.specs.Storing.{Store}
use Rattle.calls.specs.Rewrite.{rewritten, rewrite_plan, image_rewritten}
use Rattle.calls.specs.Unlink.{deletion, unlink_of, image_unlinked}
use Rattle.calls.specs.Rename.{rename_of, image_renamed}
use Rattle.calls.specs.Overwrite.{old_blocks, overwrite_of, image_overwritten}
use Rattle.calls.specs.Attempt.{Attempt, goes, refuses}
use Rattle.calls.specs.Tree.{attempt_tree, tree_answer, in_front, buffer_with}
use Rattle.calls.specs.declared.Descriptor.{Descriptor}
use Rattle.calls.specs.declared.Handle.{Handle}
use Rattle.calls_laws.specs.Checks.{passes}
use Rattle.demand2.specs.Found.{resolved}
use Rattle.demand2.proofs.Format.{format}
use Rattle.demand2.proofs.Create.{create_goes}
use Rattle.demand2.proofs.Append.{append_goes}
use Rattle.demand2.proofs.Unlink.{unlink_goes}
use Rattle.demand2.proofs.Refused.{refused_calls}
use Rattle.demand2_rename.proofs.Rename.{rename_goes}
use Rattle.demand2_overwrite.proofs.Overwrite.{overwrite_goes}
use Rattle.demand2_collect.proofs.Collect.{collect}
use Rattle.demand1.specs.Table.{new_versions}
use Rattle.demand1.specs.Words.{OnlyStored, OnlyOne, OnlyRead, OnlyTree, AcceptedCalls, Demand1}
use Rattle.demand1.proofs.Exactly.{exactly}
use Rattle.demand1.proofs.Numbers.{numbers}
use Rattle.demand1.proofs.Stores.{only_stored, only_one}

-- ---- a read

-- "as many bytes as the buffer .. allow[s]"
abbrev NoMore : ℕ → Given → Type 0
NoMore room (given bytes headers) = length bytes ≤ room
NoMore room (refused n) = Unit {0}

-- the front of the buffer, and the position moved by as many
only_read : (g : Given) (h : Handle) (buffer : Bytes) → NoMore (length buffer) g → OnlyRead g h buffer
only_read (given bytes headers) h buffer l = record {
  fits = l;
  changed = record {
    one_length = omega (arith, length-append bytes (drop (length bytes) buffer), length-drop (length bytes) buffer);
    others_kept = λ i n. behind i (i - length bytes) (omega arith);
  };
  same_id = refl;
  moved = refl;
}
  where
    behind : (i j : ℕ) → i ≡ length bytes + j → byte_at (bytes ++ drop (length bytes) buffer) i ≡ byte_at buffer i
    behind i j e = rw e (get_or-append-add bytes (drop (length bytes) buffer) j 0 ∙ get_or-drop (length bytes) buffer j 0)
only_read (refused r) h buffer l = record {
  fits = omega arith;
  changed = record { one_length = refl; others_kept = λ i n. refl };
  same_id = refl;
  moved = omega arith;
}

no_more : (image : Bytes) (ds : List Descriptor) (id position room : ℕ) → NoMore room (read_given image ds id position room)
unfolding read_given give give_blocks
no_more image ds id position room =
    go (eqb (mount_number image ds) 0) (is_live (fate_of by_bytes (volume image ds) id)) (is_directory_id id) (file_blocks by_bytes (volume image ds) id)
  where
    text : (b : Bool) (bs : List Bytes) → NoMore room (cond b (give_blocks bs position room) (refused 14))
    text true bs = omega (arith, length-take room (drop position (text_of by_bytes bs)))
    text false bs = tt

    go : (a b c : Bool) (o : Option (List Bytes))
        → NoMore room (cond a (cond b (cond c (refused 11) (give_file o position room)) (refused 9)) (refused (mount_number image ds)))
    go true true true o = tt
    go true true false none = tt
    go true true false (some bs) = text (leb position (length (text_of by_bytes bs))) bs
    go true false c o = tt
    go false b c o = tt

-- ---- the tree

-- a text in the front of a buffer: what lies behind it stays
behind_text : (buffer text : Bytes) (i : ℕ) → length text ≤ i → byte_at (in_front buffer text) i ≡ byte_at buffer i
unfolding in_front
behind_text [] [] i h = refl
behind_text [] (y ∷ text) i h = refl
behind_text (x ∷ buffer) [] i h = refl
behind_text (x ∷ buffer) (y ∷ text) zero h = absurd (omega arith)
behind_text (x ∷ buffer) (y ∷ text) (suc i) h = behind_text buffer text i (omega arith)

only_tree : (t : Attempt Bytes) (buffer : Bytes) → (tree_answer t).number ≡ 0 → OnlyTree t buffer
unfolding tree_answer buffer_with in_front
only_tree (goes text) buffer e = record {
  changed = record {
    one_length = omega (arith, length-append (take (length buffer) text) (drop (length text) buffer), length-take (length buffer) text, length-drop (length text) buffer);
    others_kept = λ i n. behind_text buffer text i (omega arith);
  };
}
only_tree (refuses r) buffer e = record { changed = record { one_length = refl; others_kept = λ i n. refl } }

-- ---- the writes at a path

module _ (image : Bytes) (ds : List Descriptor) where
  created : (base path : Bytes) (kind : ℕ) → (create_of image ds base path kind).number ≡ 0
      → (d : ℕ) × (lookup_names by_bytes (volume image ds) (names_before (path_names base path)) ≡ found d)
      × OnlyOne image (image_created image ds base path kind) ds (new_inode (volume image ds) kind d (last_name (path_names base path)))
  unfolding image_created
  created base path kind e =
      let g = create_goes image ds base path kind e in (
        g.directory,
        g.found_there,
        rw (image_created, g.goes, g.placed) (only_one image ds (passes image ds g.mounted).described _ g.stores g.placed),
      )

  appended : (base path text : Bytes) → append_of image ds base path text ≡ 0
      → (f : ℕ) × (resolve image ds base path ≡ found f)
      × OnlyStored image (image_appended image ds base path text) ds (new_blocks image ds f text)
  unfolding image_appended
  appended base path text e =
      let g = append_goes image ds base path text e in (
        g.file,
        resolved image ds base path g.mounted ∙ rw g.good g.found_there,
        rw (image_appended, g.goes, g.placed) (only_stored image ds (passes image ds g.mounted).described _ g.stores g.placed),
      )

  overwritten : (base path : Bytes) (offset : ℕ) (text : Bytes) → overwrite_of image ds base path offset text ≡ 0
      → (f : ℕ) × (resolve image ds base path ≡ found f)
      × OnlyStored image (image_overwritten image ds base path offset text) ds (new_versions image ds f offset text)
  unfolding image_overwritten
  overwritten base path offset text e =
      let g = overwrite_goes image ds base path offset text e in
      let is : old_blocks image ds g.file ≡ g.old = rw g.not_broken in (
        g.file,
        resolved image ds base path g.mounted ∙ rw g.good g.found_there,
        rw (image_overwritten, g.goes, g.image_is, is) (only_stored image ds (passes image ds g.mounted).described _ g.stores g.placed),
      )

  -- an inode rewritten
  only_rewritten : mount_number image ds ≡ 0 → (i parent : ℕ) (name : Bytes) (l : List Store) → rewrite_plan image ds i parent name ≡ some l
      → OnlyOne image (image_rewritten image ds i parent name) ds (rewritten (volume image ds) i parent name)
  unfolding image_rewritten rewrite_plan
  only_rewritten m i parent name l e = rw (image_rewritten, e) (only_one image ds (passes image ds m).described _ l e)

  unlinked : (base path : Bytes) → unlink_of image ds base path ≡ 0
      → (i : ℕ) × (resolve image ds base path ≡ found i) × OnlyOne image (image_unlinked image ds base path) ds (deletion (volume image ds) i)
  unfolding image_unlinked rewrite_plan deletion
  unlinked base path e =
      let g = unlink_goes image ds base path e in (
        g.inode,
        resolved image ds base path g.mounted ∙ rw g.good g.found_there,
        rw (image_unlinked, g.goes) (only_rewritten g.mounted g.inode NONE [] g.stores g.placed),
      )

  renamed : (base old new : Bytes) → rename_of image ds base old new ≡ 0
      → (i d : ℕ) × (resolve image ds base old ≡ found i)
      × (lookup_names by_bytes (volume image ds) (names_before (path_names base new)) ≡ found d)
      × OnlyOne image (image_renamed image ds base old new) ds (rewritten (volume image ds) i d (last_name (path_names base new)))
  unfolding image_renamed
  renamed base old new e =
      let g = rename_goes image ds base old new e in (
        g.inode,
        g.directory,
        resolved image ds base old g.mounted ∙ rw g.good_old g.found_there,
        g.found_above,
        rw (image_renamed, g.goes, g.moves)
            (only_rewritten g.mounted g.inode g.directory (last_name (path_names base new)) g.stores g.placed),
      )

  accepted_calls : AcceptedCalls image ds
  accepted_calls = record {
    format = λ e. let f = format image ds e in
        record { one_length = f.one_length; others_kept = λ i n. f.outside i (λ d m k. n (d, m, k)) };
    read = λ h buffer e. only_read (read_given image ds h.id h.position (length buffer)) h buffer
        (no_more image ds h.id h.position (length buffer));
    tree = only_tree (attempt_tree image ds);
    create = created;
    append = appended;
    overwrite = overwritten;
    unlink = unlinked;
    rename = renamed;
    collect = λ e. let c = collect image ds e in (
      c.scratch,
      c.source,
      c.was_scratch,
      c.chosen,
      record { one_length = c.one_length; others_kept = λ i n. c.outside i (λ k. n (inl k)) (λ k. n (inr k)) },
    );
  }

pub demand1 : (image : Bytes) (ds : List Descriptor) → Demand1 image ds
demand1 image ds = record {
  exactly = exactly image ds;
  numbers = numbers image ds (exactly image ds);
  refused = refused_calls image ds;
  accepted = accepted_calls image ds;
}
