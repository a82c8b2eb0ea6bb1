-- A new inode in a volume: it is live and found at its path, and all else is as it was.
use Rattle.std.specs.Prelude.{ℕ, ◌≤◌, ◌≢◌, Bool, cond, eqb}
use Rattle.std.proofs.Math.Path.{◌≡◌, refl}
use Rattle.std.proofs.Common.{sym, ap, ◌∙◌, arith, eqb→eq}
use Rattle.std.proofs.Math.Bool.{true, false}
use Rattle.std.proofs.Math.Option.{none}
use mathlib.Core.List.{List, [], ◌∷◌, ◌++◌, Memᴰ}
use Rattle.std.proofs.Math.Dec.{T}
use Rattle.format.specs.Bytes.{Bytes}
use Rattle.format.specs.Ids.{NONE, root_id, is_directory_id}
use Rattle.volume.specs.Lists.{same, has, nobody}
use Rattle.volume.specs.View.{View}
use Rattle.volume.specs.Counting.{Volume, inode_of}
use Rattle.volume.specs.Fate.{Fate, live, orphan, is_live, ascend, climb, longest_chain, fate_of}
use Rattle.volume.specs.Tree.{found, absent, onward, is_entry, is_child, walk, lookup_names}
use Rattle.volume_laws.specs.Tests.{not_T→false, and_T, eqb_differ, has_some}
use Rattle.volume_laws.specs.Counting.{Agree, counting_mem, counting_absent, fewer_ids}
use Rattle.volume_laws.specs.Climb.{closed_climb, fate_within_lem, fate_own, fate_parent, live_no_orphan}
use Rattle.volume_laws.specs.Tree.{lookup_append}
use Rattle.demand2.specs.Added.{Added, Changed}
use Rattle.demand2.proofs.Added.{split, child_same, added_changed}
use Rattle.demand2.specs.Found.{no_child, goes_on}
use Rattle.demand2.specs.Lineage.{lookup_free}
use Rattle.demand2.proofs.Entered.{entered, entered_elsewhere}
use Rattle.demand2.specs.NewInode.{NamesNo, InodeNew}

-- w is v and the new inode r, whose id no inode of v names
module _ {A : Type 0} (F : View A) (v w : Volume A) (r : A) (a : Added F v.inodes w.inodes r) (ag : Agree F v.inodes)
    (no_id : (s : A) → Memᴰ s v.inodes → F.id s ≢ F.id r) (no_parent : NamesNo F v.inodes r) where
  changed : Changed F (inode_of F v) (inode_of F w) r
  changed = added_changed F v.inodes w.inodes r a ag

  unknown : inode_of F v (F.id r) ≡ none
  unknown = counting_absent F v.inodes (F.id r) no_id

  longer : longest_chain F v ≤ longest_chain F w
  longer = fewer_ids F w.inodes v.inodes a.old

  -- every other inode keeps its chain and its fate
  fresh_climb : {X : Type 0} (stop : Fate → X) (on : A → X → X) (k j : ℕ) → j ≢ F.id r
      → climb F stop on (inode_of F w) k j ≡ climb F stop on (inode_of F v) k j
  fresh_climb stop on k j n =
      closed_climb F stop on (inode_of F v) (inode_of F w)
      (λ i s e q. changed.others (F.parent s) (no_parent s (counting_mem F v.inodes i s q).0)) k j (changed.others j n)

  fresh_fate : (j : ℕ) → j ≢ F.id r → fate_of F w j ≡ fate_of F v j
  unfolding fate_of
  fresh_fate j n = fresh_climb (λ f. f) (λ r f. f) (longest_chain F w) j n ∙ fate_within_lem F v (longest_chain F w) j longer

  -- r is an inode below a live directory in which its name was free
  module _ (no_root_lem : F.id r ≢ root_id) (parent : F.parent r ≢ NONE) (lives : fate_of F v (F.parent r) ≡ live)
      (directory : is_directory_id (F.parent r) ≡ true) (free : (j : ℕ) → is_child F v (F.parent r) (F.name r) j ≡ false) where
    other_parent : F.parent r ≢ F.id r
    unfolding ascend
    other_parent e =
        let q : fate_of F v (F.id r) ≡ orphan = fate_own F v (F.id r) orphan (rw (unknown, ascend)) in
        live_no_orphan (sym lives ∙ rw e q)

    new_lives : fate_of F w (F.id r) ≡ live
    new_lives = fate_parent F w (F.id r) r (goes_on F w (F.id r) r changed.here no_root_lem parent)
        ∙ fresh_fate (F.parent r) other_parent ∙ lives

    -- no live inode had its id
    no_old : (d : ℕ) (n : Bytes) → ¬ T (is_child F v d n (F.id r))
    unfolding is_child
    no_old d n t = rw (is_child, unknown) at t

    -- every lookup that was answered otherwise than by 9 is answered as before
    fresh_lookup : (ns : List Bytes) → lookup_names F v ns ≢ absent 9 → lookup_names F w ns ≡ lookup_names F v ns
    fresh_lookup ns q = entered_elsewhere F v w r changed new_lives fresh_fate free ns
        (λ ms rest f e. q (ap (lookup_names F v) e ∙ lookup_free F v (F.parent r) (F.name r) directory free ms rest f))
        (λ ms n rest x e f d. no_old x n)

    -- and the new path finds the new inode
    new_found : (ns : List Bytes) → lookup_names F v ns ≡ found (F.parent r) → lookup_names F w (ns ++ (F.name r ∷ [])) ≡ found (F.id r)
    unfolding walk
    new_found ns q =
        let u : lookup_names F w ns ≡ found (F.parent r)
        = fresh_lookup ns (λ z. let y : ◌≡◌ {A = ℕ} 0 1 = cc in omega arith) ∙ q in
        rw (lookup_append F w ns (F.name r ∷ []), u, entered F v w r changed new_lives fresh_fate free, directory)

    -- the new inode has no child
    childless : (n : Bytes) (j : ℕ) → is_child F w (F.id r) n j ≡ false
    unfolding is_child is_entry
    childless n = split F r (λ j. is_child F w (F.id r) n j ≡ false)
        (rw (is_child, changed.here, is_entry, eqb_differ (F.parent r) (F.id r) other_parent))
        (λ j q. child_same F v w (F.id r) n j (changed.others j q) (fresh_fate j q) ∙ not_T→false (no_parent_of j))
      where
        no_parent_of : (j : ℕ) → ¬ T (is_child F v (F.id r) n j)
        no_parent_of j t =
            let h = has_some (is_entry F (F.id r) n) (inode_of F v j)
            (and_T (has (is_entry F (F.id r) n) (inode_of F v j)) (is_live (fate_of F v j)) t).0 in
            let u = and_T (eqb (F.parent h.0) (F.id r)) (same (F.name h.0) n) h.2 in
            no_parent h.0 (counting_mem F v.inodes j h.0 h.1).0 (eqb→eq (F.parent h.0) (F.id r) u.0)

    nothing_below : (n : Bytes) (ns : List Bytes) → walk F w (F.id r) (n ∷ ns) ≡ absent (cond (is_directory_id (F.id r)) 9 11)
    unfolding walk
    nothing_below n ns = rw (walk, no_child F w (F.id r) n (λ j t. rw (childless n j) at t)) (go (is_directory_id (F.id r)))
      where
        go : (b : Bool) → onward b nobody (λ i. walk F w i ns) ≡ absent (cond b 9 11)
        go true = refl
        go false = refl

    pub inode_new : InodeNew F v w r
    inode_new = record {
      lives = new_lives;
      found_there = new_found;
      lookups = fresh_lookup;
      elsewhere = λ ns q. entered_elsewhere F v w r changed new_lives fresh_fate free ns q (λ ms n rest x e f d. no_old x n);
      below = nothing_below;
      counts = changed.here;
      inodes = changed.others;
      fates = fresh_fate;
    }
