-- What becomes of a create in a mounted volume. Document 01, "Create, append, unlink" and refusals 8 to 12, 5 and 15.
use Rattle.std.specs.Prelude.{ℕ, suc, ◌≤◌, ◌<◌, ◌≡◌, refl, ◌≢◌, cond, List, [], ◌∷◌, length, ltb}
use Rattle.std.proofs.Math.Path.{sym, ap}
use Rattle.std.proofs.Common.{◌∙◌, arith, eq-eqb, ne_eqb, lt-ltb, le-ltb}
use Rattle.std.proofs.Math.Option.{Option, none, some}
use Rattle.format.specs.Bytes.{Bytes}
use Rattle.format.specs.Ids.{first_file_id}
use Rattle.format.specs.Encoding.{inode_bytes}
use Rattle.volume.specs.View.{by_bytes}
use Rattle.volume.specs.Counting.{Volume, inode_ids}
use Rattle.volume.specs.Path.{path_names}
use Rattle.volume.specs.Tree.{found, absent}
use Rattle.calls.specs.Refusal.{◌refused_by◌, first_refusal}
use Rattle.calls.specs.Areas.{file_areas}
use Rattle.calls.specs.Mount.{most_inodes, volume, mount_number}
use Rattle.calls.specs.Storing.{Store, Space, spaces, place_all, no_place, stored_or, named_ids, unused_id}
use Rattle.calls.specs.Attempt.{Attempt, goes, refuses, leaves, unless, at_found, attempt_at}
use Rattle.calls.specs.Outcome.{code, code_nonzero}
use Rattle.calls.specs.Create.{last_name, first_id_of, new_id, new_inode, name_checks, create_in, creating, create_answer, create_image, create_of, image_created}
use Rattle.calls.specs.declared.Descriptor.{Descriptor}
use Rattle.calls.specs.declared.Refusal.{Refusal}
use Rattle.calls.specs.declared.Created.{Created}
use Rattle.path_find.specs.NewName.{name_refused, name_passed}
use Rattle.path_find.specs.Parent.{parent_of}
use Rattle.write_inodes.specs.Stored.{place_number}
use Rattle.mount_state.specs.State.{Safe, Holds}
use Rattle.mount_state.specs.Bridge.{inodes_number}
use Rattle.mount_state.specs.declared.Mounted.{Mounted}

-- "A refused answer's other numbers are 0"
abbrev pub not_created : ℕ → Created
not_created n = record { number = n; id = 0 }

-- the answer by where the new inode goes
abbrev pub stored_answer : Volume Bytes → ℕ → Option (List Store) → Created
stored_answer v kind o = cond (no_place o) (not_created 15) (record { number = 0; id = new_id v kind })

-- ---- the new inode

pub first_directory : (kind : ℕ) → kind ≡ 0 → 0 ≡ first_id_of kind
unfolding first_id_of
first_directory kind e = rw (eq-eqb kind 0 e)

pub first_file_lem : (kind : ℕ) → kind ≢ 0 → first_file_id ≡ first_id_of kind
unfolding first_id_of
first_file_lem kind e = rw (ne_eqb kind 0 e)

-- the inode of the id i was stored, or there was no place; k is the number and x the image then
module _ (image : Bytes) (v : Volume Bytes) (kind d : ℕ) (n : Bytes) (ss : List Space) (first i : ℕ) (f : first ≡ first_id_of kind) (e : i ≡ unused_id first (named_ids v))
    (k : ℕ) (a : k ≡ place_number (place_all ss (inode_bytes i 0 d n ∷ []))) (x : Bytes) (b : x ≡ stored_or image (place_all ss (inode_bytes i 0 d n ∷ []))) where
  abbrev Made : Created → Type 0
  Made r = (r ≡ stored_answer v kind (place_all ss (new_inode v kind d n ∷ []))) × (x ≡ stored_or image (place_all ss (new_inode v kind d n ∷ [])))

  is_new_lem : i ≡ new_id v kind
  unfolding new_id
  is_new_lem = e ∙ ap (λ j. unused_id j (named_ids v)) f

  same_plan : place_all ss (inode_bytes i 0 d n ∷ []) ≡ place_all ss (new_inode v kind d n ∷ [])
  unfolding new_inode
  same_plan = rw is_new_lem

  by_plan : (o : Option (List Store)) → place_all ss (inode_bytes i 0 d n ∷ []) ≡ o → k ≡ place_number o → (r : Created) → r ≡ cond (no_place o) (not_created k) (record { number = 0; id = i }) → Made r
  by_plan none p z r q = (q ∙ rw (sym same_plan ∙ p) (ap not_created z), b ∙ ap (stored_or image) same_plan)
  by_plan (some l) p z r q =
      (q ∙ rw (sym same_plan ∙ p) (ap (λ (j : ℕ). record { number = 0; id = j }) is_new_lem), b ∙ ap (stored_or image) same_plan)

  pub not_made : k ≢ 0 → (r : Created) → r ≡ not_created k → Made r
  not_made h r q = go (place_all ss (inode_bytes i 0 d n ∷ [])) refl a
    where
      go : (o : Option (List Store)) → place_all ss (inode_bytes i 0 d n ∷ []) ≡ o → k ≡ place_number o → Made r
      go none p z = by_plan none p z r q
      go (some l) p z = absurd (h z)

  pub made : k ≡ 0 → Made (record { number = 0; id = i })
  made h = go (place_all ss (inode_bytes i 0 d n ∷ [])) refl a
    where
      go : (o : Option (List Store)) → place_all ss (inode_bytes i 0 d n ∷ []) ≡ o → k ≡ place_number o → Made (record { number = 0; id = i })
      go none p z = absurd (omega (arith, z, h))
      go (some l) p z = by_plan (some l) p z (record { number = 0; id = i }) refl

-- ---- the ways that a create ends

module _ (image : Bytes) (ds : List Descriptor) (base path : Bytes) (kind : ℕ) where
  -- the answer and the image of a create
  abbrev pub Outcome : Created → Bytes → Type 0
  Outcome r x = (r ≡ create_of image ds base path kind) × (x ≡ image_created image ds base path kind)

  outcome : (u : Attempt ℕ) → creating image ds base path kind ≡ u
      → Outcome (create_answer (volume image ds) kind u) (leaves image (create_image image ds kind (last_name (path_names base path))) u)
  unfolding create_of image_created
  outcome u e =
      (sym (ap (create_answer (volume image ds) kind) e), sym (ap (leaves image (create_image image ds kind (last_name (path_names base path)))) e))

  not_mounted : mount_number image ds ≢ 0 → Outcome (not_created (mount_number image ds)) image
  unfolding creating attempt_at
  not_mounted h = outcome (refuses (mount_number image ds)) (rw (ne_eqb (mount_number image ds) 0 h))

  module _ (mounted : mount_number image ds ≡ 0) where
    abbrev name : Bytes
    name = last_name (path_names base path)

    abbrev v : Volume Bytes
    v = volume image ds

    -- the checks at the directory d
    abbrev checks : ℕ → ℕ
    checks d = create_in image ds kind d name

    creating_is : creating image ds base path kind ≡ at_found checks (parent_of by_bytes (volume image ds) base path)
    unfolding creating attempt_at
    creating_is = rw mounted

    where_absent : (n : ℕ) → parent_of by_bytes (volume image ds) base path ≡ absent n → Outcome (not_created n) image
    where_absent n e = outcome (refuses n) (creating_is ∙ ap (at_found checks) e)

    module _ (d : ℕ) (e : parent_of by_bytes (volume image ds) base path ≡ found d) where
      -- where the new inode goes
      abbrev plan : Option (List Store)
      plan = place_all (spaces image (file_areas image ds)) (new_inode (volume image ds) kind d (last_name (path_names base path)) ∷ [])

      one_in : (k : ℕ) → create_in image ds kind d name ≡ k → creating image ds base path kind ≡ unless k (goes d)
      one_in k q = creating_is ∙ ap (at_found checks) e ∙ rw q

      where_refused : (k : ℕ) → k ≡ first_refusal (name_checks v d name) → k ≢ 0 → Outcome (not_created k) image
      unfolding create_in
      where_refused k q h = outcome (refuses k) (one_in k (name_refused v d name _ (λ z. h (q ∙ z)) ∙ sym q) ∙ rw (ne_eqb k 0 h))

      module _ (z : first_refusal (name_checks v d name) ≡ 0) where
        -- the checks of the table and of the place
        name_passes : create_in image ds kind d name ≡ cond (ltb most_inodes (suc (length (inode_ids by_bytes v)))) 5 (cond (no_place plan) 15 0)
        unfolding create_in first_refusal
        name_passes =
            name_passed v d name
            ((ltb most_inodes (suc (length (inode_ids by_bytes v))) refused_by 5) ∷ (no_place plan refused_by 15) ∷ [])
            z

        where_full : most_inodes ≤ length (inode_ids by_bytes v) → Outcome (not_created 5) image
        where_full h = outcome (refuses 5) (one_in 5 (name_passes ∙ rw (lt-ltb most_inodes (suc (length (inode_ids by_bytes v))) (omega arith))))

        where_stored : length (inode_ids by_bytes v) < most_inodes → (r : Created) → r ≡ stored_answer v kind plan → (x : Bytes) → x ≡ stored_or image plan → Outcome r x
        where_stored h r a x b = go plan refl a b
          where
            passes : create_in image ds kind d name ≡ cond (no_place plan) 15 0
            passes = name_passes ∙ rw (le-ltb most_inodes (suc (length (inode_ids by_bytes v))) (omega arith))

            go : (o : Option (List Store)) → plan ≡ o → r ≡ stored_answer v kind o → x ≡ stored_or image o → Outcome r x
            go none p a b = let u = outcome (refuses 15) (one_in 15 (passes ∙ rw p)) in (a ∙ u.0, b ∙ u.1)
            go (some l) p a b = let u = outcome (goes d) (one_in 0 (passes ∙ rw p)) in (a ∙ u.0, b ∙ (sym (ap (stored_or image) p) ∙ u.1))

-- ---- by the tables of a mount

pub create_refused : (image : Bytes) (ds : List Descriptor) (base path : Bytes) (kind : ℕ) (r : Refusal) → code r ≡ mount_number image ds
    → Outcome image ds base path kind (not_created (code r)) image
create_refused image ds base path kind r e = rw e (not_mounted image ds base path kind (λ z. code_nonzero r (e ∙ z)))

module _ {image : Bytes} {ds : List Descriptor} {m : Mounted} {t : List ℕ} (s : Safe image m t) (h : Holds image ds m t) (base path : Bytes) (kind : ℕ) where
  pub create_absent : (n : ℕ) → absent n ≡ parent_of by_bytes (volume image ds) base path → Outcome image ds base path kind (not_created n) image
  create_absent n e = where_absent image ds base path kind h.number n (sym e)

  module _ (d : ℕ) (e : found d ≡ parent_of by_bytes (volume image ds) base path) (n : Bytes) (l : n ≡ last_name (path_names base path))
      (k : ℕ) (g : k ≡ first_refusal (name_checks (volume image ds) d n)) where
    checks_are : k ≡ first_refusal (name_checks (volume image ds) d (last_name (path_names base path)))
    checks_are = rw l at g

    pub create_fails : k ≢ 0 → Outcome image ds base path kind (not_created k) image
    create_fails z = where_refused image ds base path kind h.number d (sym e) k checks_are z

    pub create_full : k ≡ 0 → most_inodes ≤ m.inodes → Outcome image ds base path kind (not_created 5) image
    create_full z w = where_full image ds base path kind h.number d (sym e) (sym checks_are ∙ z) (omega (arith, inodes_number s h))

    pub create_stored : k ≡ 0 → m.inodes < most_inodes → (r : Created) (x : Bytes)
        → r ≡ stored_answer (volume image ds) kind (place_all (spaces image (file_areas image ds)) (new_inode (volume image ds) kind d n ∷ []))
        → x ≡ stored_or image (place_all (spaces image (file_areas image ds)) (new_inode (volume image ds) kind d n ∷ []))
        → Outcome image ds base path kind r x
    create_stored z w r x a b =
        where_stored image ds base path kind h.number d (sym e) (sym checks_are ∙ z) (omega (arith, inodes_number s h)) r (rw l at a) x (rw l at b)
