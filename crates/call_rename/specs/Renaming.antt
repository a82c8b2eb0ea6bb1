-- What becomes of a rename in a mounted volume. Document 02, T-01: refusals 8 to 12, 18, 16 and 15.
use Rattle.std.specs.Prelude.{ℕ, ◌≡◌, ◌≢◌, Bool, cond, not, ◌||◌, List, ◌∷◌, length, eqb}
use Rattle.std.proofs.Math.Path.{refl, sym}
use Rattle.std.proofs.Common.{ap, ◌∙◌, arith, eq-eqb, ne_eqb, eqb-true}
use Rattle.std.proofs.Math.Bool.{true, false}
use Rattle.format.specs.Bytes.{Bytes}
use Rattle.format.specs.Ids.{root_id}
use Rattle.volume.specs.View.{by_bytes}
use Rattle.volume.specs.Path.{good_path, path_names}
use Rattle.volume.specs.Tree.{found, absent, lookup_names}
use Rattle.calls.specs.Refusal.{◌refused_by◌, first_refusal}
use Rattle.calls.specs.Mount.{volume, mount_number}
use Rattle.calls.specs.Lookup.{resolve}
use Rattle.calls.specs.Storing.{is_among}
use Rattle.calls.specs.Attempt.{Attempt, goes, refuses, number_of, leaves, unless, at_found, attempt_at}
use Rattle.calls.specs.Outcome.{code, code_nonzero}
use Rattle.calls.specs.Create.{is_root, last_name, name_checks}
use Rattle.calls.specs.Rewrite.{rewrite_checks, rewrite_number, image_rewritten}
use Rattle.calls.specs.Rename.{moves_into_itself, move_number, moving, renaming, rename_of, rename_image, image_renamed}
use Rattle.calls.specs.declared.Descriptor.{Descriptor}
use Rattle.calls.specs.declared.Refusal.{Refusal}
use Rattle.record_places.specs.Place.{by_place}
use Rattle.area_pass.specs.Bridge.{placed_volume}
use Rattle.table_rows.specs.Rows.{RowsOf}
use Rattle.inode_lineage.specs.Lineage.{lineage_by, lineage_rows}
use Rattle.path_find.specs.Below.{not_below}
use Rattle.path_find.specs.NewName.{name_refused, name_passed}
use Rattle.path_find.specs.Parent.{parent_of}
use Rattle.write_inodes.specs.Rewriting.{image_if}
use Rattle.mount_state.specs.State.{Holds}
use Rattle.mount_state.specs.Bridge.{lineage_is}
use Rattle.mount_state.specs.declared.Mounted.{Mounted}

-- ---- whether it moves into itself

module _ (image : Bytes) (ds : List Descriptor) (i d : ℕ) where
  pub into_root : i ≡ root_id → true ≡ moves_into_itself (volume image ds) i d
  unfolding moves_into_itself
  into_root e = rw (eq-eqb i root_id e)

  pub into_lineage : i ≢ root_id → (ids spots : List ℕ) → RowsOf (by_place image) (placed_volume image ds).inodes ids spots
      → (r : Bool) → r ≡ is_among i (lineage_by (by_place image) (length ids) ids spots d) → r ≡ moves_into_itself (volume image ds) i d
  unfolding moves_into_itself
  into_lineage n ids spots rows r e =
      e ∙ rw (ne_eqb i root_id n, lineage_rows (by_place image) (placed_volume image ds) (length ids) ids spots rows (omega arith) d, lineage_is image ds d)

-- ---- the inode i, rewritten below d with the name n

module _ (image : Bytes) (ds : List Descriptor) (i d : ℕ) (n : Bytes) where
  abbrev pub Moved : ℕ → Bytes → Type 0
  Moved r x = (r ≡ move_number image ds i d n) × (x ≡ image_if r image ds i d n)

  module _ (k : ℕ) (e : k ≡ first_refusal (name_checks (volume image ds) d n)) where
    pub move_named : k ≢ 0 → Moved k image
    unfolding move_number
    move_named h = (e ∙ sym (name_refused (volume image ds) d n _ (λ z. h (e ∙ z))), rw (ne_eqb k 0 h))

    module _ (z : k ≡ 0) (b : Bool) (into : b ≡ moves_into_itself (volume image ds) i d) where
      -- 18, and then 16 and 15
      passed : move_number image ds i d n ≡ cond b 18 (rewrite_number image ds i d n)
      unfolding move_number rewrite_number first_refusal
      passed = name_passed (volume image ds) d n ((moves_into_itself (volume image ds) i d refused_by 18) ∷ rewrite_checks image ds i d n) (sym e ∙ z) ∙ rw into

      pub move_into : b ≡ true → Moved 18 image
      move_into t = (sym (passed ∙ rw t), refl)

      pub move_on : b ≡ false → (r : ℕ) (x : Bytes) → r ≡ rewrite_number image ds i d n → x ≡ image_if r image ds i d n → Moved r x
      move_on t r x a q = (a ∙ sym (passed ∙ rw t), q)

-- ---- the ways that a rename ends

module _ (image : Bytes) (ds : List Descriptor) (base old new : Bytes) where
  -- the number and the image of a rename
  abbrev pub Outcome : ℕ → Bytes → Type 0
  Outcome r x = (r ≡ rename_of image ds base old new) × (x ≡ image_renamed image ds base old new)

  abbrev names : List Bytes
  names = path_names base new

  outcome : (u : Attempt ℕ) → renaming image ds base old new ≡ u → Outcome (number_of u) (leaves image (rename_image image ds names) u)
  unfolding rename_of image_renamed
  outcome u e = (sym (ap number_of e), sym (ap (leaves image (rename_image image ds names)) e))

  not_mounted : mount_number image ds ≢ 0 → Outcome (mount_number image ds) image
  unfolding renaming attempt_at
  not_mounted h = outcome (refuses (mount_number image ds)) (rw (ne_eqb (mount_number image ds) 0 h))

  module _ (mounted : mount_number image ds ≡ 0) where
    -- at the inode of the old path
    abbrev checks : ℕ → ℕ
    checks i = number_of (moving image ds names i)

    -- 8 of either path
    either_bad : (not (good_path base old) || not (good_path base new) || is_root names) ≡ (not (good_path base old) || not_below base new)
    either_bad = go (not (good_path base old)) (not (good_path base new))
      where
        go : (a b : Bool) → (a || b || is_root names) ≡ (a || (b || is_root names))
        go true b = refl
        go false b = refl

    bad_new : not_below base new ≡ true → Outcome 8 image
    unfolding renaming attempt_at
    bad_new e = outcome (refuses 8) (rw (mounted, either_bad, e) (go (not (good_path base old))))
      where
        go : (b : Bool) → at_found checks (cond (b || true) (absent 8) (lookup_names by_bytes (volume image ds) (path_names base old))) ≡ refuses 8
        go true = refl
        go false = refl

    module _ (below : not_below base new ≡ false) where
      renaming_is : renaming image ds base old new ≡ at_found checks (resolve image ds base old)
      unfolding renaming attempt_at resolve
      renaming_is = rw (mounted, either_bad, below) (go (good_path base old))
        where
          go : (b : Bool) → at_found checks (cond (not b || false) (absent 8) (lookup_names by_bytes (volume image ds) (path_names base old)))
              ≡ at_found checks (cond b (lookup_names by_bytes (volume image ds) (path_names base old)) (absent 8))
          go true = refl
          go false = refl

      old_absent : (n : ℕ) → resolve image ds base old ≡ absent n → Outcome n image
      old_absent n e = outcome (refuses n) (renaming_is ∙ ap (at_found checks) e)

      module _ (i : ℕ) (e : resolve image ds base old ≡ found i) where
        one : (k : ℕ) → checks i ≡ k → renaming image ds base old new ≡ unless k (goes i)
        one k q = renaming_is ∙ ap (at_found checks) e ∙ rw q

        -- the number k of the move decides, and the image x that the move leaves
        decided : (u : Attempt ℕ) → moving image ds names i ≡ u
            → Outcome (number_of u) (leaves image (λ d. image_rewritten image ds i d (last_name names)) u)
        decided (goes d) q = let o = outcome (goes i) (one 0 (ap number_of q)) in (o.0, sym (ap (leaves image (λ d. image_rewritten image ds i d (last_name names))) q) ∙ o.1)
        decided (refuses k) q = go (eqb k 0) refl
          where
            go : (t : Bool) → eqb k 0 ≡ t → Outcome k image
            go true z =
                let o = outcome (goes i) (one k (ap number_of q) ∙ rw z) in
                (eqb-true k 0 z ∙ o.0, sym (ap (leaves image (λ d. image_rewritten image ds i d (last_name names))) q) ∙ o.1)
            go false z = outcome (refuses k) (one k (ap number_of q) ∙ rw z)

        moving_is : moving image ds names i ≡ at_found (λ d. move_number image ds i d (last_name names)) (parent_of by_bytes (volume image ds) base new)
        unfolding moving
        moving_is = rw below

        new_absent : (n : ℕ) → parent_of by_bytes (volume image ds) base new ≡ absent n → Outcome n image
        new_absent n q = decided (refuses n) (moving_is ∙ ap (at_found (λ d. move_number image ds i d (last_name names))) q)

        new_found : (d : ℕ) → parent_of by_bytes (volume image ds) base new ≡ found d → (r : ℕ) (x : Bytes) → Moved image ds i d (last_name names) r x → Outcome r x
        new_found d q r x m = go (eqb r 0) refl
          where
            move : moving image ds names i ≡ unless r (goes d)
            move = moving_is ∙ ap (at_found (λ d. move_number image ds i d (last_name names))) q ∙ rw (← m.0)

            go : (t : Bool) → eqb r 0 ≡ t → Outcome r x
            go true z = let o = decided (goes d) (move ∙ rw z) in (eqb-true r 0 z ∙ o.0, m.1 ∙ rw z o.1)
            go false z = let o = decided (refuses r) (move ∙ rw z) in (o.0, m.1 ∙ rw z o.1)

-- ---- by the tables of a mount

pub rename_refused : (image : Bytes) (ds : List Descriptor) (base old new : Bytes) (r : Refusal) → code r ≡ mount_number image ds
    → Outcome image ds base old new (code r) image
rename_refused image ds base old new r e = rw e (not_mounted image ds base old new (λ z. code_nonzero r (e ∙ z)))

module _ {image : Bytes} {ds : List Descriptor} {m : Mounted} {t : List ℕ} (h : Holds image ds m t) (base old new : Bytes) where
  pub rename_bad : not_below base new ≡ true → Outcome image ds base old new 8 image
  rename_bad = bad_new image ds base old new h.number

  module _ (below : not_below base new ≡ false) where
    pub rename_absent : (n : ℕ) → absent n ≡ resolve image ds base old → Outcome image ds base old new n image
    rename_absent n e = old_absent image ds base old new h.number below n (sym e)

    module _ (i : ℕ) (e : found i ≡ resolve image ds base old) where
      pub rename_nowhere : (n : ℕ) → absent n ≡ parent_of by_bytes (volume image ds) base new → Outcome image ds base old new n image
      rename_nowhere n q = new_absent image ds base old new h.number below i (sym e) n (sym q)

      pub rename_moved : (d : ℕ) → found d ≡ parent_of by_bytes (volume image ds) base new → (n : Bytes) → n ≡ last_name (path_names base new)
          → (r : ℕ) (x : Bytes) → Moved image ds i d n r x → Outcome image ds base old new r x
      rename_moved d q n l r x w = new_found image ds base old new h.number below i (sym e) d (sym q) r x (rw l at w)
