-- Each call's number is given exactly when the table says.
use Rattle.std.specs.Prelude.{ℕ, suc, ◌+◌, ◌<◌, ◌⊎◌, ◌≢◌, Bool, ◌||◌, T, ltb}
use Rattle.std.proofs.Math.Path.{◌≡◌, refl, sym, ap}
use Rattle.std.proofs.Common.{◌∙◌, ⊎_elim, arith}
use Rattle.std.proofs.Math.Logic.{inl, inr}
use Rattle.std.proofs.Math.Bool.{true, false, cond, not}
use Rattle.std.proofs.Math.Option.{Option, none, some}
use mathlib.Core.List.Memᴰ
use mathlib.Core.List.{List, [], ◌∷◌, ◌++◌, map, Memᴰ}
use Rattle.std.proofs.Math.ListN.{length}
use Rattle.std.proofs.Math.Dec.{eqb, leb}
use borrow.Author.Tests.{eqb-true, eqb-false, ltb-true, ltb-false, leb-true, leb-false}
use Rattle.format.specs.Bytes.{Bytes}
use Rattle.format.specs.Ids.{NONE, root_id, is_directory_id}
use Rattle.format.specs.Record.{record_size, record_sequence}
use Rattle.format.specs.Reading.{area_clean}
use Rattle.volume.specs.Lists.{bind}
use Rattle.volume.specs.View.{by_bytes}
use Rattle.volume.specs.Counting.{Volume, inode_of, inode_ids, block_ids}
use Rattle.volume.specs.Fate.{Fate, live, dead, orphan, is_live, fate_of, lineage}
use Rattle.volume.specs.Contents.{file_blocks, text_of}
use Rattle.volume.specs.Path.{good_path, path_names}
use Rattle.volume.specs.Tree.{Found, found, absent, children, lookup_names}
use Rattle.volume.specs.Listing.{tree_text}
use Rattle.volume_laws.specs.Tests.{true→T, T→true, eqb_differ, or_is_false, not_is_false}
use Rattle.volume_laws.specs.Tree.{children_mem}
use Rattle.calls.specs.Refusal.{first_refusal}
use Rattle.calls.specs.Mount.{most_inodes, most_blocks, volume, bad_description, wrong_areas, mount_number}
use Rattle.calls.specs.Attempt.{Attempt, goes, refuses, number_of, unless, at_found, attempt_at}
use Rattle.calls.specs.Areas.{area_end, area_bytes, file_areas, scratch_areas}
use Rattle.calls.specs.Storing.{Space, Fit, Store, spaces, keep_space, first_fit, prepend, place_all, no_place, is_among}
use Rattle.calls.specs.Report.{mounted_report, refused_report, report_of}
use Rattle.calls.specs.AreaReport.{area_report, refused_area_report, area_report_number, area_report_of}
use Rattle.calls.specs.Lookup.{resolve, lookup_answer, lookup_of, file_only, open_answer, open_of}
use Rattle.calls.specs.Read.{refused, give_blocks, give_file, give, read_given, read_answer}
use Rattle.calls.specs.Format.{format_number}
use Rattle.calls.specs.Create.{is_root, last_name, names_before, new_inode, create_in, creating, create_of}
use Rattle.calls.specs.Append.{most_appended, new_blocks, is_broken, append_to, attempt_text, appending, append_of}
use Rattle.calls.specs.Rewrite.{last_sequence, sequence_of, rewritten, rewrite_plan, rewrite_checks, rewrite_number}
use Rattle.calls.specs.Unlink.{deletion, unlink_one, unlinking, unlink_of}
use Rattle.calls.specs.Rename.{moves_into_itself, move_number, moving, renaming, rename_of}
use Rattle.calls.specs.Overwrite.{changes, old_blocks, overwrite_plan, overwrite_to, overwriting, overwrite_of}
use Rattle.calls.specs.Collect.{source_of, collect_from, collect_with, collecting, collect_of}
use Rattle.calls.specs.Tree.{attempt_tree, tree_answer}
use Rattle.calls.specs.declared.Descriptor.{Descriptor}
use Rattle.calls.specs.declared.AreaReport.{AreaReport}
use Rattle.calls_laws.specs.Checks.{passes}
use Rattle.calls_laws.specs.Unused.{among, not_among}
use Rattle.collect_laws.proofs.Source.{source_found, source_none, file_eligible}
use Rattle.demand2.specs.Store.{free_place}
use Rattle.demand1.specs.Table.{Row, ◌given_when◌, Answers, mount_rows, walk_rows, path_rows, LiveChild, NoRoom, NoRoomLeft}
use Rattle.demand1.specs.Table.{BadPath, broken_row, end_row, source_row, format_rows, area_report_rows, lookup_rows, open_rows, read_rows, create_rows, append_rows}
use Rattle.demand1.specs.Table.{text_rows, new_versions, overwrite_rows, name_rows, rewrite_rows, IntoItself, unlink_rows, rename_rows}
use Rattle.demand1.specs.Table.{Exactly}
use Rattle.demand1.proofs.Stores.{fit_inside, space_of}
use Rattle.demand1.specs.Paths.{named_names, path_means}
use Rattle.demand1.specs.Walk.{child_means, child_listed, found_or, walk_answers}
use Rattle.demand1.proofs.Touched.{whole_blocks, past_means, touched_means, versions_mean}
use Rattle.demand1.specs.Mounting.{Means, ltb_means, leb_means, eqb_means, is_means, fails_means, or_means, step, done, list_means, mount_answers}

-- ---- rows one after the other

-- no row has the number of success
abbrev Refuse : List Row → Type 0
Refuse [] = Unit {0}
Refuse (r ∷ rs) = (r.number ≢ 0) × Refuse rs

-- where the first rows refuse nothing, those behind them decide
then_answers : (rs ss : List Row) (n m : ℕ) → Refuse rs → Answers rs n → (n ≡ 0 → Answers ss m) → Answers (rs ++ ss) (cond (eqb n 0) m n)
unfolding Answers
then_answers [] ss n m k a b = rw a (b a)
then_answers (r ∷ rs) ss n m k (inl a) b = inl (a.0, rw (eqb_differ n 0 (λ z. k.0 (sym a.1 ∙ z))) a.1)
then_answers (r ∷ rs) ss n m k (inr a) b = inr (a.0, then_answers rs ss n m k.1 a.1 b)

module _ (image : Bytes) (ds : List Descriptor) where
  -- "Every call but format makes checks 1 to 7"
  pub mounted_answers : (ss : List Row) (m : ℕ) → (mount_number image ds ≡ 0 → Answers ss m)
      → Answers (mount_rows image ds ++ ss) (cond (eqb (mount_number image ds) 0) m (mount_number image ds))
  mounted_answers ss m =
      then_answers (mount_rows image ds) ss (mount_number image ds) m (omega arith) (mount_answers image ds)

-- a call at a path
path_answers : (image : Bytes) (ds : List Descriptor) (bad : Bool) (w : Type 0) (ns : List Bytes) (rest : List Row) (m : ℕ → ℕ) → Means bad w
    → ((i : ℕ) → lookup_names by_bytes (volume image ds) ns ≡ found i → Answers rest (m i))
    → Answers (path_rows image ds w ns rest)
    (cond (eqb (mount_number image ds) 0) (cond bad 8 (found_or m (lookup_names by_bytes (volume image ds) ns))) (mount_number image ds))
path_answers image ds bad w ns rest m k h =
    mounted_answers image ds ((8 given_when w) ∷ (walk_rows (volume image ds) ns ++ rest)) _
    (λ z. step bad 8 _ w _ k (λ e. walk_answers (volume image ds) ns rest m h))

-- ---- numbers as the checks give them

unless_number : {A : Type 0} (r : ℕ) (t : Attempt A) → number_of (unless r t) ≡ cond (eqb r 0) (number_of t) r
unless_number r t = go (eqb r 0)
  where
    go : (b : Bool) → number_of (cond b t (refuses r)) ≡ cond b (number_of t) r
    go true = refl
    go false = refl

-- at what a walk found
found_number : (checks : ℕ → ℕ) (o : Found) → number_of (at_found checks o) ≡ found_or checks o
found_number checks (absent r) = refl
found_number checks (found i) = go (eqb (checks i) 0) refl
  where
    go : (b : Bool) → eqb (checks i) 0 ≡ b → number_of (cond b (goes i) (refuses (checks i))) ≡ checks i
    go true e = sym (eqb-true (checks i) 0 e)
    go false e = refl

attempt_number : (mount : ℕ) (bad : Bool) (o : Found) (checks : ℕ → ℕ)
    → number_of (attempt_at mount bad o checks) ≡ cond (eqb mount 0) (cond bad 8 (found_or checks o)) mount
unfolding attempt_at
attempt_number mount bad o checks =
    unless_number mount (at_found checks (cond bad (absent 8) o)) ∙ ap (λ (n : ℕ). cond (eqb mount 0) n mount) (go bad o)
  where
    go : (b : Bool) (o : Found) → number_of (at_found checks (cond b (absent 8) o)) ≡ cond b 8 (found_or checks o)
    go true o = refl
    go false o = found_number checks o

resolve_number : (image : Bytes) (ds : List Descriptor) (base path : Bytes) (m : ℕ → ℕ) → found_or m (resolve image ds base path)
    ≡ cond (eqb (mount_number image ds) 0)
    (cond (not (good_path base path)) 8 (found_or m (lookup_names by_bytes (volume image ds) (path_names base path)))) (mount_number image ds)
unfolding resolve
resolve_number image ds base path m = go (eqb (mount_number image ds) 0) (good_path base path)
  where
    go : (a b : Bool)
        → found_or m (cond a (cond b (lookup_names by_bytes (volume image ds) (path_names base path)) (absent 8)) (absent (mount_number image ds)))
        ≡ cond a (cond (not b) 8 (found_or m (lookup_names by_bytes (volume image ds) (path_names base path)))) (mount_number image ds)
    go true true = refl
    go true false = refl
    go false b = refl

-- ---- room

-- no space has room exactly when nothing fits
fit_none : (n : ℕ) (ss : List Space) → first_fit n ss ≡ none → (s : Space) → Memᴰ s ss → s.end < s.from + n
unfolding first_fit
fit_none n [] e s m = absurd (Memᴰ.not-nil m)
fit_none n (u ∷ ss) e s m = go (leb (u.from + n) u.end) refl e (fit_none n ss)
  where
    rest : (o : Option Fit) → keep_space u o ≡ none → o ≡ none
    rest none e = refl
    rest (some f) e = let z : ◌≡◌ {A = ℕ} 0 1 = cc in absurd (omega arith)

    go : (b : Bool) → leb (u.from + n) u.end ≡ b
        → cond b (some (record { place = u.from; left = record { from = u.from + n; end = u.end } ∷ ss })) (keep_space u (first_fit n ss)) ≡ none
        → (first_fit n ss ≡ none → (s : Space) → Memᴰ s ss → s.end < s.from + n) → s.end < s.from + n
    go true b e ih = let z : ◌≡◌ {A = ℕ} 0 1 = cc in absurd (omega arith)
    go false b e ih = ⊎_elim (λ q. rw q (leb-false (u.from + n) u.end b)) (ih (rest (first_fit n ss) e) s) (Memᴰ.cases_cons m)

-- the free space of a clean file area is one of the spaces
space_in : (image : Bytes) (fs : List Descriptor) (d : Descriptor) → Memᴰ d fs → area_clean record_size (area_bytes image d) ≡ true
    → Memᴰ (record { from = free_place image d; end = area_end d }) (spaces image fs)
unfolding spaces
space_in image [] d n c = elim n [ ]
space_in image (e ∷ fs) d m c = go (area_clean record_size (area_bytes image e)) refl (space_in image fs d)
  where
    go : (b : Bool) → area_clean record_size (area_bytes image e) ≡ b
        → (Memᴰ d fs → area_clean record_size (area_bytes image d) ≡ true
        → Memᴰ (record { from = free_place image d; end = area_end d }) (spaces image fs))
        → Memᴰ (record { from = free_place image d; end = area_end d })
        (cond b (record { from = free_place image e; end = area_end e } ∷ spaces image fs) (spaces image fs))
    go true q ih = ⊎_elim
        (λ z. Memᴰ.head (ap (λ (x : Descriptor). record { from = free_place image x; end = area_end x }) z))
        (λ k. Memᴰ.tail (ih k c)) (Memᴰ.cases_cons m)
    go false q ih = ⊎_elim (λ z. absurd (dirty z)) (λ k. ih k c) (Memᴰ.cases_cons m)
      where
        dirty : d ≡ e → ⊥
        dirty z = let t : T (area_clean record_size (area_bytes image e)) = rw z at (true→T c) in rw q at t

-- "15: a record fits in no clean file area"
room_means : (image : Bytes) (ds : List Descriptor) (b : Bytes)
    → Means (no_place (place_all (spaces image (file_areas image ds)) (b ∷ []))) (NoRoom image ds b)
unfolding place_all
room_means image ds b = go (first_fit (length b) (spaces image (file_areas image ds))) refl
  where
    placed : (f : Fit) → first_fit (length b) (spaces image (file_areas image ds)) ≡ some f → ¬ NoRoom image ds b
    placed f q h =
        let i = (fit_inside (length b) (spaces image (file_areas image ds)) f q).0 in
        let t = space_of image (file_areas image ds) i.0 i.1 in
        let from : i.0.from ≡ free_place image t.0 = λ j. (t.3 j).from in
        let end : i.0.end ≡ area_end t.0 = λ j. (t.3 j).end in
        omega (arith, i.2.behind, i.2.before_end, h t.0 t.1 t.2)

    go : (o : Option Fit) → first_fit (length b) (spaces image (file_areas image ds)) ≡ o
        → Means (no_place (bind o (λ f. prepend (record { place = f.place; bytes = b }) (some [])))) (NoRoom image ds b)
    go none q = (
      (λ e d m c. fit_none (length b) (spaces image (file_areas image ds)) q (record { from = free_place image d; end = area_end d })
          (space_in image (file_areas image ds) d m c)),
      (λ e. let z : ◌≡◌ {A = ℕ} 0 1 = cc in absurd (omega arith)),
    )
    go (some f) q = ((λ e. let z : ◌≡◌ {A = ℕ} 0 1 = cc in absurd (omega arith)), (λ e. placed f q))

-- and of several: "all pieces or none"
place_means : (bs : List Bytes) (ss : List Space) → Means (no_place (place_all ss bs)) (NoRoomLeft ss bs)
unfolding place_all NoRoomLeft
place_means [] ss = ((λ e. let z : ◌≡◌ {A = ℕ} 0 1 = cc in absurd (omega arith)), (λ e n. n))
place_means (b ∷ bs) ss = go (first_fit (length b) ss) refl (place_means bs)
  where
    same_place : (s : Store) (o : Option (List Store)) → no_place (prepend s o) ≡ no_place o
    same_place s none = refl
    same_place s (some l) = refl

    roomy : (f : Fit) → first_fit (length b) ss ≡ some f → ((s : Space) → Memᴰ s ss → s.end < s.from + length b) → ⊥
    roomy f q h = let i = (fit_inside (length b) ss f q).0 in omega (arith, i.2.behind, i.2.before_end, h i.0 i.1)

    go : (o : Option Fit) → first_fit (length b) ss ≡ o → ((ss : List Space) → Means (no_place (place_all ss bs)) (NoRoomLeft ss bs))
        → Means (no_place (bind o (λ f. prepend (record { place = f.place; bytes = b }) (place_all f.left bs))))
        (((s : Space) → Memᴰ s ss → s.end < s.from + length b) ⊎ ((f : Fit) × (first_fit (length b) ss ≡ some f) × NoRoomLeft f.left bs))
    go none q ih = (
      (λ e. inl (fit_none (length b) ss q)),
      (λ e. let z : ◌≡◌ {A = ℕ} 0 1 = cc in absurd (omega arith)),
    )
    go (some f) q ih =
        let p = same_place (record { place = f.place; bytes = b }) (place_all f.left bs) in (
          (λ e. inr (f, q, (ih f.left).0 (sym p ∙ e))),
          (λ e. ⊎_elim (roomy f q) (λ x.
              let y : ◌≡◌ {A = Option Fit} (some x.0) (some f) = sym x.1 ∙ q in
              let w : x.0 ≡ f = cc in
              (ih f.left).1 (sym p ∙ e) (rw w at x.2))),
        )

-- ---- single tests

none_some : {A : Type 0} {a : A} → none ≡ some a → ⊥
none_some e = let z : ◌≡◌ {A = ℕ} 0 1 = cc in omega arith

root_means : (ns : List Bytes) → Means (is_root ns) (ns ≡ [])
root_means [] = ((λ e. refl), (λ e z. eqb-false 0 0 e refl))
root_means (n ∷ ns) = (
  (λ e. absurd (omega (arith, eqb-true (suc (length ns)) 0 e))),
  (λ e z. let y : length (n ∷ ns) ≡ 0 = ap length z in omega arith),
)

broken_means : (o : Option (List Bytes)) → Means (is_broken o) (o ≡ none)
broken_means none = ((λ e. refl), (λ e. let z : ◌≡◌ {A = ℕ} 0 1 = cc in absurd (omega arith)))
broken_means (some bs) = ((λ e. let z : ◌≡◌ {A = ℕ} 0 1 = cc in absurd (omega arith)), (λ e z. none_some (sym z)))

live_means : (f : Fate) → Means (not (is_live f)) (f ≢ live)
live_means live = ((λ e. let z : ◌≡◌ {A = ℕ} 0 1 = cc in absurd (omega arith)), (λ e n. n refl))
live_means dead = ((λ e z. let y : ◌≡◌ {A = ℕ} 0 1 = cc in omega arith), (λ e. let z : ◌≡◌ {A = ℕ} 0 1 = cc in absurd (omega arith)))
live_means orphan = ((λ e z. let y : ◌≡◌ {A = ℕ} 0 1 = cc in omega arith), (λ e. let z : ◌≡◌ {A = ℕ} 0 1 = cc in absurd (omega arith)))

-- "12: create: the name is there (once or oftener)"
name_means : (v : Volume Bytes) (d : ℕ) (n : Bytes) → Means (ltb 0 (length (children by_bytes v d n))) ((i : ℕ) × LiveChild v d n i)
name_means v d n = go (children by_bytes v d n) (λ i m. (child_means v d n i).0 (T→true (children_mem by_bytes v d n i m))) (child_listed v d n)
  where
    go : (l : List ℕ) → ((i : ℕ) → Memᴰ i l → LiveChild v d n i) → ((i : ℕ) → LiveChild v d n i → Memᴰ i l)
        → Means (ltb 0 (length l)) ((i : ℕ) × LiveChild v d n i)
    go [] f g = ((λ e. absurd (omega (arith, ltb-true 0 0 e))), (λ e p. Memᴰ.not-nil (g p.0 p.1)))
    go (i ∷ l) f g = ((λ e. (i, f i (Memᴰ.head refl))), (λ e p. omega (arith, ltb-false 0 (suc (length l)) e)))

-- 18: the root, or an inode of the lineage
into_means : (v : Volume Bytes) (i d : ℕ) → Means (moves_into_itself v i d) (IntoItself v i d)
unfolding moves_into_itself
into_means v i d = or_means (eqb i root_id) (is_among i (lineage by_bytes v d)) (eqb_means i root_id) (
  (λ e. among i (lineage by_bytes v d) (true→T e)),
  (λ e. not_among i (lineage by_bytes v d) (λ t. rw e at t)),
)

-- ---- checks that several calls make

-- a new name below the inode d, before other checks
name_answers : (v : Volume Bytes) (above : Found) (d : ℕ) (n : Bytes) (rest : List Row) (m : ℕ) → above ≡ found d → Answers rest m
    → Answers (name_rows v above n ++ rest) (cond (not (is_directory_id d)) 11 (cond (ltb 0 (length (children by_bytes v d n))) 12 m))
name_answers v above d n rest m q a =
    step (not (is_directory_id d)) 11 _ _ _ (rw q (fails_means (is_directory_id d))) (λ e.
    step (ltb 0 (length (children by_bytes v d n))) 12 _ _ _ (rw q (name_means v d n)) (λ e. a))

-- the inode i rewritten
rewrite_answers : (image : Bytes) (ds : List Descriptor) (o : Found) (i parent : ℕ) (name : Bytes) (no_room : ℕ → Type 0) → o ≡ found i
    → Means (no_place (rewrite_plan image ds i parent name)) (no_room i)
    → Answers (rewrite_rows (volume image ds) o no_room) (first_refusal (rewrite_checks image ds i parent name))
unfolding first_refusal
rewrite_answers image ds o i parent name no_room q k =
    step (eqb (sequence_of (inode_of by_bytes (volume image ds) i)) last_sequence) 16 _ _ _ (rw q (eqb_means _ last_sequence)) (λ e.
    step (no_place (rewrite_plan image ds i parent name)) 15 0 _ [] (rw q k) (λ e. done))

-- ---- 17

module _ (image : Bytes) (ds : List Descriptor) where
  collect_answers : mount_number image ds ≡ 0
      → Answers (source_row (file_areas image ds) (scratch_areas image ds) ∷ [])
      (number_of (collect_with image (file_areas image ds) (scratch_areas image ds)))
  unfolding Answers wrong_areas
  collect_answers z =
      let o = or_is_false (eqb (length (file_areas image ds)) 0) (not (eqb (length (scratch_areas image ds)) 1)) (passes image ds z).areas in
      let n = eqb-true (length (scratch_areas image ds)) 1 (not_is_false (eqb (length (scratch_areas image ds)) 1) o.1) in
      go (scratch_areas image ds) n
    where
      go : (ss : List Descriptor) → length ss ≡ 1
          → Answers (source_row (file_areas image ds) ss ∷ [])
          (number_of (collect_with image (file_areas image ds) ss))
      go [] n = absurd (omega arith)
      go (t ∷ u ∷ ss) n = absurd (omega arith)
      go (t ∷ []) n = at (source_of image (file_areas image ds) t) refl
        where
          at : (o : Option Descriptor) → source_of image (file_areas image ds) t ≡ o
              → Answers (source_row (file_areas image ds) (t ∷ []) ∷ [])
              (number_of (collect_from t o))
          at none q = inl (
            (λ s f m k z. Memᴰ.not-nil
                (rw (source_none image (file_areas image ds) t q) at (file_eligible (file_areas image ds) t k (rw (Memᴰ.eq_of_singleton m) at z)))),
            refl,
          )
          at (some s) q =
              let c = source_found image (file_areas image ds) t s q in
              inr ((λ h. h t s (Memᴰ.head refl) c.0 c.1), refl)

  file_answers : (id position room : ℕ)
      → Answers (broken_row (volume image ds) id ∷ end_row (volume image ds) id position ∷ [])
      (read_answer (give_file (file_blocks by_bytes (volume image ds) id) position room)).number
  unfolding Answers give_blocks
  file_answers id position room = go (file_blocks by_bytes (volume image ds) id) refl
    where
      go : (o : Option (List Bytes)) → file_blocks by_bytes (volume image ds) id ≡ o
          → Answers (broken_row (volume image ds) id ∷ end_row (volume image ds) id position ∷ [])
          (read_answer (give_file o position room)).number
      go none q = inl (q, refl)
      go (some bs) q = inr ((λ z. none_some (sym z ∙ q)), at (leb position (length (text_of by_bytes bs))) refl)
        where
          at : (b : Bool) → leb position (length (text_of by_bytes bs)) ≡ b
              → Answers (end_row (volume image ds) id position ∷ [])
              (read_answer (cond b (give_blocks bs position room) (refused 14))).number
          at true e = inr (
            (λ p. let z : ◌≡◌ {A = Option (List Bytes)} (some p.0) (some bs) = sym p.1 ∙ q in
                let y : p.0 ≡ bs = cc in
                omega (arith, leb-true position (length (text_of by_bytes bs)) e, p.2, ap (λ (l : List Bytes). length (text_of by_bytes l)) y)),
            refl,
          )
          at false e = inl ((bs, q, omega (arith, leb-false position (length (text_of by_bytes bs)) e)), refl)

  give_number : (id position room : ℕ) → (read_answer (give (volume image ds) id position room)).number
      ≡ cond (not (is_live (fate_of by_bytes (volume image ds) id))) 9 (cond (is_directory_id id) 11
      (read_answer (give_file (file_blocks by_bytes (volume image ds) id) position room)).number)
  unfolding give
  give_number id position room = go (is_live (fate_of by_bytes (volume image ds) id)) (is_directory_id id)
    where
      go : (a b : Bool)
          → (read_answer (cond a (cond b (refused 11) (give_file (file_blocks by_bytes (volume image ds) id) position room)) (refused 9))).number
          ≡ cond (not a) 9 (cond b 11 (read_answer (give_file (file_blocks by_bytes (volume image ds) id) position room)).number)
      go true true = refl
      go true false = refl
      go false b = refl

  read_number : (id position room : ℕ) → (read_answer (read_given image ds id position room)).number
      ≡ cond (eqb (mount_number image ds) 0) (read_answer (give (volume image ds) id position room)).number (mount_number image ds)
  unfolding read_given
  read_number id position room = go (eqb (mount_number image ds) 0)
    where
      go : (b : Bool) → (read_answer (cond b (give (volume image ds) id position room) (refused (mount_number image ds)))).number
          ≡ cond b (read_answer (give (volume image ds) id position room)).number (mount_number image ds)
      go true = refl
      go false = refl

  report_number : (report_of image ds).number ≡ mount_number image ds
  unfolding report_of mounted_report
  report_number = go (eqb (mount_number image ds) 0) refl
    where
      go : (b : Bool) → eqb (mount_number image ds) 0 ≡ b
          → (cond b (mounted_report image ds) (refused_report (mount_number image ds))).number ≡ mount_number image ds
      go true e = sym (eqb-true (mount_number image ds) 0 e)
      go false e = refl

  tree_number : (tree_answer (attempt_tree image ds)).number ≡ mount_number image ds
  unfolding tree_answer attempt_tree
  tree_number = go (eqb (mount_number image ds) 0) refl
    where
      go : (b : Bool) → eqb (mount_number image ds) 0 ≡ b
          → number_of (cond b (goes (tree_text by_bytes (volume image ds))) (refuses (mount_number image ds))) ≡ mount_number image ds
      go true e = sym (eqb-true (mount_number image ds) 0 e)
      go false e = refl

  area_number : (i k : ℕ) → (area_report_of image ds i k).number ≡ area_report_number image ds i
  unfolding area_report_of area_report
  area_number i k = go (eqb (area_report_number image ds i) 0) refl _ refl
    where
      go : (b : Bool) → eqb (area_report_number image ds i) 0 ≡ b → (r : AreaReport) → r.number ≡ 0
          → (cond b r (refused_area_report (area_report_number image ds i))).number ≡ area_report_number image ds i
      go true e r z = z ∙ sym (eqb-true (area_report_number image ds i) 0 e)
      go false e r z = refl

  looked_up : (o : Found) → (lookup_answer o).number ≡ found_or (λ i. 0) o
  looked_up (found i) = refl
  looked_up (absent r) = refl

  opened : (o : Found) → (open_answer (file_only o)).number ≡ found_or (λ i. cond (is_directory_id i) 11 0) o
  opened (found i) = go (is_directory_id i)
    where
      go : (b : Bool) → (open_answer (cond b (absent 11) (found i))).number ≡ cond b 11 0
      go true = refl
      go false = refl
  opened (absent r) = refl

  -- ---- the calls

  abbrev v : Volume Bytes
  v = volume image ds

  format_answers : Answers (format_rows image ds) (format_number image ds)
  unfolding format_number first_refusal
  format_answers =
      step (bad_description image ds) 1 _ _ _ (list_means image ds)
      (λ e. step (ltb (length ds) 2) 3 0 _ [] (ltb_means (length ds) 2) (λ e. done))

  area_answers : (i k : ℕ) → Answers (area_report_rows image ds i) (area_report_of image ds i k).number
  unfolding area_report_number first_refusal
  area_answers i k = rw (area_number i k)
      (step (bad_description image ds) 1 _ _ _ (list_means image ds)
      (λ e. step (leb (length ds) i) 1 0 _ [] (leb_means (length ds) i) (λ e. done)))

  read_answers : (id position room : ℕ) → Answers (read_rows image ds id position) (read_answer (read_given image ds id position room)).number
  read_answers id position room =
      rw (read_number id position room) (mounted_answers image ds _ _ (λ z. rw (give_number id position room)
      (step (not (is_live (fate_of by_bytes v id))) 9 _ _ _ (live_means (fate_of by_bytes v id)) (λ e.
      step (is_directory_id id) 11 _ _ _ (is_means (is_directory_id id)) (λ e. file_answers id position room)))))

  module _ (base path : Bytes) where
    abbrev names : List Bytes
    names = path_names base path

    abbrev bad : Bool
    bad = not (good_path base path)

    -- "bad path or name; .. creating or unlinking the root"
    named_means : Means (bad || is_root names) (BadPath base path ⊎ (names ≡ []))
    named_means = or_means bad (is_root names) (path_means base path) (root_means names)

    lookup_answers : Answers (lookup_rows image ds base path) (lookup_of image ds base path).number
    unfolding lookup_of
    lookup_answers = rw (looked_up (resolve image ds base path), resolve_number image ds base path (λ i. 0))
        (path_answers image ds bad _ names [] (λ i. 0) (path_means base path) (λ i q. done))

    open_answers : Answers (open_rows image ds base path) (open_of image ds base path).number
    unfolding open_of
    open_answers = rw (opened (resolve image ds base path), resolve_number image ds base path (λ i. cond (is_directory_id i) 11 0))
        (path_answers image ds bad _ names _ (λ i. cond (is_directory_id i) 11 0) (path_means base path)
        (λ i q. step (is_directory_id i) 11 0 _ [] (rw q (is_means (is_directory_id i))) (λ e. done)))

    create_answers : (kind : ℕ) → Answers (create_rows image ds base path kind) (create_of image ds base path kind).number
    unfolding create_of creating create_in first_refusal
    create_answers kind = rw (attempt_number (mount_number image ds) (bad || is_root names) (lookup_names by_bytes v (names_before names))
        (λ d. create_in image ds kind d (last_name names)))
        (path_answers image ds (bad || is_root names) _ (names_before names) _ _ named_means (λ d q.
        let b = new_inode v kind d (last_name names) in
        name_answers v _ d (last_name names) _ _ q
        (step (ltb most_inodes (suc (length (inode_ids by_bytes v)))) 5 _ _ _ (ltb_means most_inodes _) (λ e.
        step (no_place (place_all (spaces image (file_areas image ds)) (b ∷ []))) 15 0 _ [] (rw q (room_means image ds b)) (λ e. done)))))

    -- a text for the file to which the path leads; 8 is "bad path or name; over 8,192 bytes to append"
    text_answers : (text : Bytes) (rest : List Row) (checks m : ℕ → ℕ)
        → ((f : ℕ) → checks f ≡ cond (is_directory_id f) 11 (cond (is_broken (file_blocks by_bytes v f)) 13 (m f)))
        → ((f : ℕ) → lookup_names by_bytes v names ≡ found f → is_broken (file_blocks by_bytes v f) ≡ false → Answers rest (m f))
        → Answers (text_rows image ds base path text rest) (number_of (attempt_text image ds base path text checks))
    text_answers text rest checks m c h = rw (attempt_number (mount_number image ds) (bad || ltb most_appended (length text)) (lookup_names by_bytes v names)
        checks)
        (path_answers image ds (bad || ltb most_appended (length text)) _ names _ _
        (or_means bad (ltb most_appended (length text)) (path_means base path) (ltb_means most_appended (length text))) (λ f q. rw (c f)
        (step (is_directory_id f) 11 _ _ _ (rw q (is_means (is_directory_id f))) (λ e.
        step (is_broken (file_blocks by_bytes v f)) 13 _ _ _ (rw q (broken_means (file_blocks by_bytes v f))) (λ e. h f q e)))))

    append_answers : (text : Bytes) → Answers (append_rows image ds base path text) (append_of image ds base path text)
    unfolding append_of appending append_to first_refusal
    append_answers text = text_answers text _ (λ f. append_to image ds f text) _ (λ f. refl) (λ f q e.
        let ss = spaces image (file_areas image ds) in
        let bs = new_blocks image ds f text in
        step (ltb most_blocks (length (block_ids by_bytes v) + length (new_blocks image ds f text))) 5 _ _ _ (rw q (ltb_means most_blocks _)) (λ e.
        step (no_place (place_all ss bs)) 15 0 _ [] (rw q (place_means bs ss)) (λ e. done)))

    overwrite_answers : (offset : ℕ) (text : Bytes) → Answers (overwrite_rows image ds base path offset text) (overwrite_of image ds base path offset text)
    unfolding overwrite_of overwriting overwrite_to overwrite_plan first_refusal
    overwrite_answers offset text = text_answers text _ (λ f. overwrite_to image ds f offset text) _ (λ f. refl) (λ f q e.
        let o = file_blocks by_bytes v f in
        let w = whole_blocks o e in
        let ss = spaces image (file_areas image ds) in
        let bs = new_versions image ds f offset text in
        step (ltb (length (text_of by_bytes (old_blocks image ds f))) (offset + length text)) 14 _ _ _ (rw q (past_means o offset (length text) w)) (λ e.
        step (is_among last_sequence (map (λ c. record_sequence c.block) (changes (old_blocks image ds f) offset text))) 16 _ _ _
        (rw q (touched_means o offset text last_sequence w)) (λ e.
        step (no_place (place_all ss bs)) 15 0 _ [] (rw q (versions_mean o offset text _ (NoRoomLeft ss) w (place_means bs ss))) (λ e. done))))

    unlink_answers : Answers (unlink_rows image ds base path) (unlink_of image ds base path)
    unfolding unlink_of unlinking unlink_one rewrite_number rewrite_plan deletion
    unlink_answers = rw (attempt_number (mount_number image ds) (bad || is_root names) (lookup_names by_bytes v names) (unlink_one image ds))
        (path_answers image ds (bad || is_root names) _ names _ _ named_means (λ i q.
        rewrite_answers image ds _ i NONE [] _ q (room_means image ds (deletion v i))))

  rename_answers : (base old new : Bytes) → Answers (rename_rows image ds base old new) (rename_of image ds base old new)
  unfolding rename_of renaming moving move_number rewrite_plan first_refusal
  rename_answers base old new =
      let ns = path_names base new in
      let n = last_name ns in
      let above = lookup_names by_bytes v (names_before ns) in
      let either = not (good_path base old) || not (good_path base new) || is_root ns in
      rw (attempt_number (mount_number image ds) either (lookup_names by_bytes v (path_names base old)) (λ i. number_of (moving image ds ns i)))
      (path_answers image ds either _ (path_names base old) _ _
      (or_means (not (good_path base old) || not (good_path base new)) (is_root ns)
      (or_means (not (good_path base old)) (not (good_path base new)) (path_means base old) (path_means base new)) (root_means ns)) (λ i q.
      rw (found_number (λ d. move_number image ds i d n) above)
      (walk_answers v (names_before ns) _ _ (λ d p.
      name_answers v above d n _ _ p
      (step (moves_into_itself v i d) 18 _ _ _ (rw (q, p) (into_means v i d)) (λ e.
      rewrite_answers image ds _ i d n _ q (rw p (room_means image ds (rewritten v i d n)))))))))

  pub exactly : Exactly image ds
  unfolding collect_of collecting
  exactly = record {
    names = named_names;
    format = format_answers;
    report = rw report_number (mount_answers image ds);
    area_report_lem = area_answers;
    lookup = lookup_answers;
    opened = open_answers;
    read = read_answers;
    create = create_answers;
    append = append_answers;
    overwrite = overwrite_answers;
    unlink = unlink_answers;
    rename = rename_answers;
    collect = rw (unless_number (mount_number image ds) (collect_with image (file_areas image ds) (scratch_areas image ds)))
        (mounted_answers image ds _ _ collect_answers);
    tree = rw tree_number (mount_answers image ds);
  }
