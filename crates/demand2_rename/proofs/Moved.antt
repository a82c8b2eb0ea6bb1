-- A moved inode in a volume: it and what lies below it are found by the new names in place of the old ones, and all else is as it was.
use Rattle.std.specs.Prelude.{ℕ, ◌≡◌, refl, ◌≢◌, true, false, ◌&&◌, length, eqb}
use Rattle.std.proofs.Math.Path.{sym, ap}
use Rattle.std.proofs.Common.{◌∙◌, inr, arith, eqb→eq}
use mathlib.Core.List.{List, [], ◌∷◌, ◌++◌, Memᴰ, append-nil, append_assoc}
use Rattle.std.proofs.Math.Dec.{T}
use Rattle.format.specs.Bytes.{Bytes}
use Rattle.format.specs.Ids.{is_directory_id}
use Rattle.volume.specs.Lists.{same, nobody, one, only}
use Rattle.volume.specs.View.{View}
use Rattle.volume.specs.Counting.{Volume, inode_of, inode_ids}
use Rattle.volume.specs.Fate.{live, is_live, ascend, fate_of, live_ids, lineage, names_of}
use Rattle.volume.specs.Tree.{found, absent, is_entry, is_child, children, walk, lookup_names}
use Rattle.volume_laws.specs.Tests.{T→true, not_T→false, and_T}
use Rattle.volume_laws.specs.Lists.{same_eq}
use Rattle.volume_laws.specs.Once.{alike_both, alike_length}
use Rattle.volume_laws.specs.Climb.{fate_parent}
use Rattle.volume_laws.specs.Sound.{Sound}
use Rattle.volume_laws.specs.Tree.{lookup_append}
use Rattle.calls.specs.Create.{last_name, names_before}
use Rattle.demand2.specs.Names.{names_split, names_before_lem}
use Rattle.demand2.specs.Added.{Changed}
use Rattle.demand2.proofs.Added.{split, child_same}
use Rattle.demand2.specs.Found.{directory_low, sole, no_child, goes_on}
use Rattle.demand2.specs.Lineage.{mem_dec, lineage_step, names_step, lineage_fate, below_live, parent_outside, found_below}
use Rattle.demand2.specs.Lineage.{lookup_on, lookup_free, walk_along, lookup_stays, lookup_lost}
use Rattle.demand2.proofs.Newer.{newer_counts, same_ids, outside_fate, outside_lineage, outside_names, below_fate}
use Rattle.demand2.proofs.Entered.{entered, entered_free, entered_not, entered_elsewhere}
use Rattle.demand2_rename.specs.Moved.{Moves, InodeMoved}

-- ---- the old names and the new ones

-- The inode i, and a directory d that is neither it nor below it, in which no live inode has the name n: the names of i, ms, and the new ones,
-- those of d, ns, and n.
module _ {A : Type 0} (F : View A) (v : Volume A) (sound : Sound F v) (i d : ℕ) (n : Bytes) (directory : is_directory_id d ≡ true)
    (outside : ¬ Memᴰ i (lineage F v d)) (free : (j : ℕ) → is_child F v d n j ≡ false) (ns ms : List Bytes)
    (found_above : lookup_names F v ns ≡ found d) (found_there : lookup_names F v ms ≡ found i) where
  -- the old names do not begin with the new ones, which lead nowhere
  pub old_apart : (rest : List Bytes) → ms ≢ ns ++ (n ∷ rest)
  old_apart rest e =
      let z : ◌≡◌ {A = ℕ} 0 1 = cc (found_there, ap (lookup_names F v) e, lookup_free F v d n directory free ns rest found_above) in omega arith

  -- nor the new ones with the old ones: the directory would be the inode, or below it
  pub new_apart : (rest : List Bytes) → ns ++ (n ∷ []) ≢ ms ++ rest
  unfolding lineage
  new_apart [] e = old_apart [] (sym (e ∙ append-nil ms))
  new_apart (m ∷ rest) e =
      let l = names_before (m ∷ rest) in
      let o = last_name (m ∷ rest) in
      let q : ns ++ (n ∷ []) ≡ (ms ++ l) ++ (o ∷ [])
      = e ∙ ap (λ k. ms ++ k) (names_split (m ∷ rest) (λ z. omega arith)) ∙ sym (append_assoc ms l (o ∷ [])) in
      let z : ns ≡ ms ++ l = sym (names_before_lem ns n) ∙ ap names_before q ∙ names_before_lem (ms ++ l) o in
      outside (found_below F v sound i i l d (sym (lookup_on F v ms i found_there l) ∙ ap (lookup_names F v) (sym z) ∙ found_above)
      (Memᴰ.head refl))

-- ---- the move

module _ {A : Type 0} (F : View A) (v w : Volume A) (r : A) (g : Moves F v w r) where
  -- the moved inode, its new parent and its new name
  abbrev i : ℕ
  i = F.id r

  abbrev d : ℕ
  d = F.parent r

  abbrev n : Bytes
  n = F.name r

  -- its new record counts, and of every other inode the record that did
  changed : Changed F (inode_of F v) (inode_of F w) r
  changed = newer_counts F v w r g.newer

  -- ---- fates

  -- its chain of parents goes on above its new record
  on : ascend F (inode_of F w i) ≡ inr r
  on = goes_on F w i r changed.here g.no_root_lem (λ z. omega (arith, z, directory_low d g.directory))

  -- and leads to the root, since that of the directory does and does not come by it
  lives : fate_of F w i ≡ live
  lives = fate_parent F w i r on ∙ outside_fate F v w r g.newer d g.outside ∙ g.above

  -- what is at or below it lives with it, and all else keeps its chain
  fates : (j : ℕ) → fate_of F w j ≡ fate_of F v j
  fates j = go (mem_dec i (lineage F v j))
    where
      go : Dec (Memᴰ i (lineage F v j)) → fate_of F w j ≡ fate_of F v j
      go (yes m) = below_fate F v w r g.newer j m ∙ lives ∙ sym (sym (lineage_fate F v i j m) ∙ g.lived)
      go (no m) = outside_fate F v w r g.newer j m

  -- as many live ones
  live_ones : length (live_ids F w) ≡ length (live_ids F v)
  unfolding live_ids
  live_ones = alike_length _ _
      (alike_both (λ j. is_live (fate_of F w j)) (λ j. is_live (fate_of F v j)) (inode_ids F w) (inode_ids F v)
      (same_ids F v w r g.newer) (λ j. ap is_live (fates j)))

  -- ---- lineages and names

  -- what is below it keeps its record
  kept : (j : ℕ) (s : A) → j ≢ i → ascend F (inode_of F v j) ≡ inr s → ascend F (inode_of F w j) ≡ inr s
  kept j s b q = rw (changed.others j b) q

  -- what is at or below it is so still
  still_below : (j : ℕ) → Memᴰ i (lineage F v j) → Memᴰ i (lineage F w j)
  unfolding lineage
  still_below = below_live F v i (λ j. Memᴰ i (lineage F w j)) g.lived (Memᴰ.head refl)
      (λ j s b f q h. rw (lineage_step F w j s (fates j ∙ f) (kept j s b q)) (Memᴰ.tail h))

  -- and nothing else
  was_below : (j : ℕ) → Memᴰ i (lineage F w j) → Memᴰ i (lineage F v j)
  was_below j m = go (mem_dec i (lineage F v j))
    where
      go : Dec (Memᴰ i (lineage F v j)) → Memᴰ i (lineage F v j)
      go (yes k) = k
      go (no k) = rw (outside_lineage F v w r g.newer j k) at m

  -- the ancestors of what is at or below it, and their names, are the same from there on
  below_lineage : (j : ℕ) → Memᴰ i (lineage F v j)
      → (l : List ℕ) × (lineage F v j ≡ l ++ lineage F v i) × (lineage F w j ≡ l ++ lineage F w i)
  below_lineage = below_live F v i (λ j. (l : List ℕ) × (lineage F v j ≡ l ++ lineage F v i) × (lineage F w j ≡ l ++ lineage F w i)) g.lived
      ([], refl, refl)
      (λ j s b f q h. (
        j ∷ h.0,
        lineage_step F v j s f q ∙ ap (λ l. j ∷ l) h.1,
        lineage_step F w j s (fates j ∙ f) (kept j s b q) ∙ ap (λ l. j ∷ l) h.2,
      ))

  below_names : (j : ℕ) → Memᴰ i (lineage F v j)
      → (ns : List Bytes) × (names_of F v j ≡ names_of F v i ++ ns) × (names_of F w j ≡ names_of F w i ++ ns)
  below_names = below_live F v i (λ j. (ns : List Bytes) × (names_of F v j ≡ names_of F v i ++ ns) × (names_of F w j ≡ names_of F w i ++ ns)) g.lived
      ([], sym (append-nil (names_of F v i)), sym (append-nil (names_of F w i)))
      (λ j s b f q h. (
        h.0 ++ (F.name s ∷ []),
        names_step F v j s f q ∙ ap (λ l. l ++ (F.name s ∷ [])) h.1 ∙ append_assoc (names_of F v i) h.0 (F.name s ∷ []),
        names_step F w j s (fates j ∙ f) (kept j s b q) ∙ ap (λ l. l ++ (F.name s ∷ [])) h.2
            ∙ append_assoc (names_of F w i) h.0 (F.name s ∷ []),
      ))

  -- ---- who is whose child

  -- its new name leads to it
  new_entry : only (children F w d n) ≡ one i
  new_entry = entered F v w r changed lives (λ j b. fates j) g.free

  -- a name that led to someone is not the new one, which was free
  not_new : (x : ℕ) (m : Bytes) (y : ℕ) → only (children F v x m) ≡ one y → is_entry F x m r ≢ true
  not_new x m y q t =
      let e = entered_free F v w r changed lives (λ j b. fates j) g.free x m t in
      let z : ◌≡◌ {A = ℕ} 0 1 = cc in omega arith

  -- its old name leads to nobody
  old_entry : (x : ℕ) (m : Bytes) → T (is_child F v x m i) → only (children F w x m) ≡ nobody
  unfolding is_child
  old_entry x m t = no_child F w x m (split F r (λ j. ¬ T (is_child F w x m j))
      (λ u. let e : T (is_entry F x m r && is_live (fate_of F w i)) = rw (is_child, changed.here) at u in
      not_new x m i (g.alone x m t) (T→true (and_T (is_entry F x m r) (is_live (fate_of F w i)) e).0))
      (λ j b u. b ((sole F v x m i (g.alone x m t)).1 j (rw (← child_same F v w x m j (changed.others j b) (fates j)) u))))

  -- every other name leads to whom it led
  same_entry : (x : ℕ) (m : Bytes) → is_entry F x m r ≡ false → ¬ T (is_child F v x m i) → only (children F w x m) ≡ only (children F v x m)
  same_entry = entered_not F v w r changed lives (λ j b. fates j) g.free

  -- which is the new one, by parent and name
  entry_is : (x : ℕ) (m : Bytes) → T (is_entry F x m r) → (x ≡ d) × (m ≡ n)
  unfolding is_entry
  entry_is x m t = let u = and_T (eqb d x) (same n m) t in (sym (eqb→eq d x u.0), sym (same_eq n m u.1))

  -- ---- lookups

  -- all but it and what is below it is the only child that it was
  stays_one : (x : ℕ) (m : Bytes) (y : ℕ) → only (children F v x m) ≡ one y → ¬ Memᴰ i (lineage F v y) → only (children F w x m) ≡ one y
  unfolding lineage
  stays_one x m y q b = same_entry x m (not_T→false (λ t. not_new x m y q (T→true t))) (λ t. b (Memᴰ.head ((sole F v x m y q).1 i t))) ∙ q

  -- and it is no more
  leaves_one : (x : ℕ) (m : Bytes) → only (children F v x m) ≡ one i → only (children F w x m) ≡ nobody
  leaves_one x m q = old_entry x m (sole F v x m i q).0

  -- below it no step of a walk takes the old name or the new one: neither directory lies there
  walk_below : (rest : List Bytes) → walk F w i rest ≡ walk F v i rest
  unfolding lineage
  walk_below rest = walk_along F v w i rest (λ ms m ns x e f dir.
      let k = found_below F v g.sound i i ms x f (Memᴰ.head refl) in
      same_entry x m (not_T→false (λ t. let z = (entry_is x m t).0 in g.outside (rw (← z) k))) (λ t. parent_outside F v g.sound x m i dir t k))

  -- what was found and is not at or below it is found as before
  stays : (ns : List Bytes) (j : ℕ) → lookup_names F v ns ≡ found j → ¬ Memᴰ i (lineage F v j) → lookup_names F w ns ≡ found j
  stays = lookup_stays F v w g.sound i stays_one leaves_one

  -- the new names lead to the directory, to the inode, and on from there
  at_new : (ns ms rest : List Bytes) → lookup_names F v ns ≡ found d → lookup_names F v ms ≡ found i
      → lookup_names F w (ns ++ (n ∷ rest)) ≡ lookup_names F v (ms ++ rest)
  unfolding walk
  at_new ns ms rest f h =
      lookup_on F w ns d (stays ns d f g.outside) (n ∷ rest)
      ∙ rw (walk, g.directory, new_entry) (walk_below rest) ∙ sym (lookup_on F v ms i h rest)

  -- the old ones lead as far as to its old parent
  at_old : (ms rest : List Bytes) → lookup_names F v ms ≡ found i → lookup_names F w (ms ++ rest) ≡ absent 9
  unfolding lineage
  at_old ms rest f =
      lookup_append F w ms rest ∙ rw (lookup_lost F v w g.sound i stays_one leaves_one g.no_root_lem ms i f (Memᴰ.head refl))

  -- a lookup that takes neither name goes as before
  elsewhere : (ns : List Bytes) → ((ms rest : List Bytes) → lookup_names F v ms ≡ found d → ns ≢ ms ++ (n ∷ rest))
      → ((ms rest : List Bytes) → lookup_names F v ms ≡ found i → ns ≢ ms ++ rest) → lookup_names F w ns ≡ lookup_names F v ns
  unfolding walk
  elsewhere ns new old = entered_elsewhere F v w r changed lives (λ j b. fates j) g.free ns new (λ ms m rest x e f dir t.
      old (ms ++ (m ∷ [])) rest (lookup_on F v ms x f (m ∷ []) ∙ rw (walk, dir, g.alone x m t)) (e ∙ sym (append_assoc ms (m ∷ []) rest)))

  -- all of it
  pub inode_moved : InodeMoved F v w (F.id r) (F.parent r) (F.name r)
  inode_moved = record {
    fates = fates;
    ids = alike_length (inode_ids F w) (inode_ids F v) (same_ids F v w r g.newer);
    live_ones = live_ones;
    below = still_below;
    was_below = was_below;
    lineages = outside_lineage F v w r g.newer;
    names = outside_names F v w r g.newer;
    own_lineage = lineage_step F w i r lives on ∙ ap (λ l. i ∷ l) (outside_lineage F v w r g.newer d g.outside);
    own_names = names_step F w i r lives on ∙ ap (λ l. l ++ (n ∷ [])) (outside_names F v w r g.newer d g.outside);
    below_lineage = below_lineage;
    below_names = below_names;
    new_entry = new_entry;
    old_entry = old_entry;
    other_entries = λ x m b. same_entry x m (not_T→false (λ t. b (entry_is x m t)));
    at_new = at_new;
    at_old = at_old;
    elsewhere = elsewhere;
    stays = stays;
  }
