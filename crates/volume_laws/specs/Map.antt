-- Two views of the same records: what the rules tell of one is what they tell of the other. So records held by place are read as their bytes.
use Rattle.std.proofs.Math.Path.{◌≡◌, refl, sym, ap}
use Rattle.std.proofs.Common.{◌∙◌, inl, inr}
use Rattle.std.specs.Prelude.{◌⊎◌, Bool, ltb}
use Rattle.std.proofs.Math.Bool.{true, false, cond, not}
use Rattle.std.proofs.Math.Option.{Option, none, some}
use mathlib.Core.List.{List, [], ◌∷◌, ◌++◌, map}
use Prim.Native.Nat.{ℕ, zero, suc, ◌-◌}
use Rattle.std.proofs.Math.ListN.{length, length-map}
use Rattle.std.proofs.Math.Dec.{eqb}
use Rattle.format.specs.Bytes.{Bytes}
use Rattle.format.specs.Ids.{NONE, root_id, is_directory_id}
use Rattle.volume.specs.Lists.{keep, all, once, bind, has, Only, nobody, several, one, only, sort}
use Rattle.volume.specs.View.{View}
use Rattle.volume.specs.Counting.{Volume, volume_of, versions, newest, counting, ids_of, agree, all_agree, inode_of, block_of, inode_ids}
use Rattle.volume.specs.Counting.{block_ids}
use Rattle.volume.specs.Fate.{Fate, live, dead, ascend, climb, fate_within, longest_chain, fate_of, block_dead, live_ids, lineage, names_of}
use Rattle.volume.specs.Tree.{onward, is_entry, is_child, children, walk, lookup_names}
use Rattle.volume.specs.Contents.{chain_start, snoc, owns, owned, unnamed, last_block, chain_back, file_blocks, text_of, headers_from}
use Rattle.volume.specs.Listing.{most_depth, Line, shown, deeper, deeper_for, show_entry, line_of, name_of, comes_before, is_live_child, entries_of, show_directory}
use Rattle.volume.specs.Listing.{tree_lines, size_word, words_of, line_text, tree_text}
use Rattle.volume_laws.specs.Lists.{keep_cong, keep_map, all_cong, all_map, map_append, joined_cong}
use Rattle.volume_laws.specs.Sort.{sort_cong}
use Rattle.volume_laws.specs.Climb.{climb_stop, climb_on}

-- what there is, seen the other way
abbrev pub over : {A B : Type 0} → (A → B) → Option A → Option B
over f none = none
over f (some a) = some (f a)

abbrev over_up : {A B : Type 0} → (A → B) → Fate ⊎ A → Fate ⊎ B
over_up f (inl x) = inl x
over_up f (inr a) = inr (f a)

abbrev pub over_volume : {A B : Type 0} → (A → B) → Volume A → Volume B
over_volume f v = record { inodes = map f v.inodes; blocks = map f v.blocks }

-- f takes a record in the view F to the same record in the view G
pub record Views {A B : Type 0} (F : View A) (G : View B) (f : A → B) : Type 0 where
  pub id : (a : A) → G.id (f a) ≡ F.id a
  pub sequence : (a : A) → G.sequence (f a) ≡ F.sequence a
  pub is_block : (a : A) → G.is_block (f a) ≡ F.is_block a
  pub parent : (a : A) → G.parent (f a) ≡ F.parent a
  pub name : (a : A) → G.name (f a) ≡ F.name a
  pub owner : (a : A) → G.owner (f a) ≡ F.owner a
  pub previous : (a : A) → G.previous (f a) ≡ F.previous a
  pub text : (a : A) → G.text (f a) ≡ F.text a
  pub same : (a b : A) → G.same (f a) (f b) ≡ F.same a b

-- one more of a list, seen the other way
pub snoc_over : {A B : Type 0} (f : A → B) (o : Option (List A)) (r : A) → snoc (over (map f) o) (f r) ≡ over (map f) (snoc o r)
snoc_over f none r = refl
snoc_over f (some l) r = ap some (sym (map_append f l (r ∷ [])))

has_over : {A B : Type 0} (f : A → B) (p : B → Bool) (q : A → Bool) → ((a : A) → p (f a) ≡ q a) → (o : Option A) → has p (over f o) ≡ has q o
has_over f p q h none = refl
has_over f p q h (some a) = h a

module _ {A B : Type 0} (F : View A) (G : View B) (f : A → B) (w : Views F G f) where
  -- which records count
  pub ids_map : (rs : List A) → ids_of G (map f rs) ≡ ids_of F rs
  unfolding ids_of
  ids_map rs = ap once (go rs)
    where
      go : (rs : List A) → map G.id (map f rs) ≡ map F.id rs
      go [] = refl
      go (r ∷ rs) = rw (w.id r, go rs)

  versions_map : (i : ℕ) (rs : List A) → versions G i (map f rs) ≡ map f (versions F i rs)
  unfolding versions
  versions_map i rs =
      keep_map f (λ r. eqb (G.id r) i) rs
      ∙ ap (map f) (keep_cong (λ r. eqb (G.id (f r)) i) (λ r. eqb (F.id r) i) rs (λ r m. rw (w.id r)))

  newest_map : (rs : List A) → newest G (map f rs) ≡ over f (newest F rs)
  unfolding newest
  newest_map [] = refl
  newest_map (r ∷ rs) = go (newest F rs) refl (newest_map rs)
    where
      pick : (s : A) (b : Bool) → cond b (some (f s)) (some (f r)) ≡ over f (cond b (some s) (some r))
      pick s true = refl
      pick s false = refl

      go : (o : Option A) → newest F rs ≡ o → newest G (map f rs) ≡ over f (newest F rs)
          → newest G (f r ∷ map f rs) ≡ over f (newest F (r ∷ rs))
      go none e ih = rw (newest, ih, e)
      go (some s) e ih = rw (newest, ih, e, w.sequence r, w.sequence s) (pick s (ltb (F.sequence r) (F.sequence s)))

  pub counting_map : (rs : List A) (i : ℕ) → counting G (map f rs) i ≡ over f (counting F rs i)
  unfolding counting
  counting_map rs i = rw (versions_map i rs) (newest_map (versions F i rs))

  -- check 6
  agree_map : (r s : A) → agree G (f r) (f s) ≡ agree F r s
  unfolding agree
  agree_map r s = rw (agree, w.id r, w.id s, w.sequence r, w.sequence s, w.same r s)

  pub all_agree_map : (rs : List A) → all_agree G (map f rs) ≡ all_agree F rs
  unfolding all_agree
  all_agree_map rs =
      all_map f (λ r. all (agree G r) (map f rs)) rs
      ∙ all_cong (λ r. all (agree G (f r)) (map f rs)) (λ r. all (agree F r) rs) rs
      (λ r m. all_map f (agree G (f r)) rs ∙ all_cong (λ s. agree G (f r) (f s)) (agree F r) rs (λ s n. agree_map r s))

  -- records parted by kind
  pub volume_of_map : (rs : List A) → volume_of G (map f rs) ≡ over_volume f (volume_of F rs)
  unfolding volume_of
  volume_of_map rs = λ i. record { inodes = inodes i; blocks = blocks i }
    where
      inodes : keep (λ r. not (G.is_block r)) (map f rs) ≡ map f (keep (λ r. not (F.is_block r)) rs)
      inodes = keep_map f (λ r. not (G.is_block r)) rs ∙ ap (map f) (keep_cong _ _ rs (λ r m. rw (w.is_block r)))

      blocks : keep G.is_block (map f rs) ≡ map f (keep F.is_block rs)
      blocks = keep_map f G.is_block rs ∙ ap (map f) (keep_cong _ _ rs (λ r m. w.is_block r))

  pub inode_of_map : (v : Volume A) (i : ℕ) → inode_of G (over_volume f v) i ≡ over f (inode_of F v i)
  inode_of_map v i = counting_map v.inodes i

  pub block_of_map : (v : Volume A) (i : ℕ) → block_of G (over_volume f v) i ≡ over f (block_of F v i)
  block_of_map v i = counting_map v.blocks i

  pub inode_ids_map : (v : Volume A) → inode_ids G (over_volume f v) ≡ inode_ids F v
  inode_ids_map v = ids_map v.inodes

  pub block_ids_map : (v : Volume A) → block_ids G (over_volume f v) ≡ block_ids F v
  block_ids_map v = ids_map v.blocks

  pub longest_chain_map : (v : Volume A) → longest_chain G (over_volume f v) ≡ longest_chain F v
  longest_chain_map v = ap length (ids_map v.inodes)

  -- what a chain of parents does at an id
  ascend_map : (o : Option A) (x : Fate ⊎ A) → ascend F o ≡ x → ascend G (over f o) ≡ over_up f x
  unfolding ascend
  ascend_map none x e = rw (← e)
  ascend_map (some r) x e = rw (← e, w.id r, w.parent r) (go (eqb (F.id r) root_id) (eqb (F.parent r) NONE))
    where
      go : (a b : Bool) → ◌≡◌ {A = Fate ⊎ B} (cond a (inl live) (cond b (inl dead) (inr (f r))))
          (over_up f (cond a (inl live) (cond b (inl dead) (inr r))))
      go true b = refl
      go false true = refl
      go false false = refl

  -- what is gathered along it
  pub climb_map : {X : Type 0} (stop : Fate → X) (on : A → X → X) (onᴳ : B → X → X) → ((r : A) (x : X) → onᴳ (f r) x ≡ on r x)
      → (c : ℕ → Option A) (d : ℕ → Option B) → ((i : ℕ) → d i ≡ over f (c i)) → (k i : ℕ) → climb G stop onᴳ d k i ≡ climb F stop on c k i
  unfolding climb
  climb_map stop on onᴳ g c d h zero i = refl
  climb_map stop on onᴳ g c d h (suc k) i = go (ascend F (c i)) refl (climb_map stop on onᴳ g c d h k)
    where
      go : (x : Fate ⊎ A) → ascend F (c i) ≡ x → ((j : ℕ) → climb G stop onᴳ d k j ≡ climb F stop on c k j)
          → climb G stop onᴳ d (suc k) i ≡ climb F stop on c (suc k) i
      go (inl x) e ih = climb_stop G stop onᴳ d k i x (rw (h i) (ascend_map (c i) (inl x) e)) ∙ sym (climb_stop F stop on c k i x e)
      go (inr r) e ih =
          climb_on G stop onᴳ d k i (f r) (rw (h i) (ascend_map (c i) (inr r) e))
          ∙ g r _ ∙ ap (on r) (rw (w.parent r) (ih (F.parent r)))
          ∙ sym (climb_on F stop on c k i r e)

  pub fate_within_map : (c : ℕ → Option A) (d : ℕ → Option B) → ((i : ℕ) → d i ≡ over f (c i)) → (k i : ℕ) → fate_within G d k i ≡ fate_within F c k i
  fate_within_map = climb_map (λ x. x) (λ r x. x) (λ r x. x) (λ r x. refl)

  pub fate_of_map : (v : Volume A) (i : ℕ) → fate_of G (over_volume f v) i ≡ fate_of F v i
  unfolding fate_of
  fate_of_map v i = rw (longest_chain_map v) (fate_within_map (inode_of F v) (inode_of G (over_volume f v)) (inode_of_map v) (longest_chain F v) i)

  pub block_dead_map : (v : Volume A) (r : A) → block_dead G (over_volume f v) (f r) ≡ block_dead F v r
  unfolding block_dead
  block_dead_map v r = rw (w.owner r, fate_of_map v (F.owner r))

  pub live_ids_map : (v : Volume A) → live_ids G (over_volume f v) ≡ live_ids F v
  unfolding live_ids
  live_ids_map v = rw (inode_ids_map v) (keep_cong _ _ (inode_ids F v) (λ i m. rw (fate_of_map v i)))

  pub lineage_map : (v : Volume A) (i : ℕ) → lineage G (over_volume f v) i ≡ lineage F v i
  unfolding lineage
  lineage_map v i = rw (longest_chain_map v) (ap (λ l. i ∷ l)
      (climb_map (λ x. []) (λ r l. F.parent r ∷ l) (λ r l. G.parent r ∷ l) (λ r l. rw (w.parent r))
      (inode_of F v) (inode_of G (over_volume f v)) (inode_of_map v) (longest_chain F v) i))

  pub names_of_map : (v : Volume A) (i : ℕ) → names_of G (over_volume f v) i ≡ names_of F v i
  unfolding names_of
  names_of_map v i = rw (longest_chain_map v)
      (climb_map (λ x. []) (λ r l. l ++ (F.name r ∷ [])) (λ r l. l ++ (G.name r ∷ [])) (λ r l. rw (w.name r))
      (inode_of F v) (inode_of G (over_volume f v)) (inode_of_map v) (longest_chain F v) i)

  -- directories and lookup
  pub is_entry_map : (d : ℕ) (n : Bytes) (r : A) → is_entry G d n (f r) ≡ is_entry F d n r
  unfolding is_entry
  is_entry_map d n r = rw (is_entry, w.parent r, w.name r)

  pub is_child_map : (v : Volume A) (d : ℕ) (n : Bytes) (i : ℕ) → is_child G (over_volume f v) d n i ≡ is_child F v d n i
  unfolding is_child
  is_child_map v d n i = rw (is_child, inode_of_map v i, fate_of_map v i, has_over f (is_entry G d n) (is_entry F d n) (is_entry_map d n) (inode_of F v i))

  pub children_map : (v : Volume A) (d : ℕ) (n : Bytes) → children G (over_volume f v) d n ≡ children F v d n
  unfolding children
  children_map v d n = rw (children, inode_ids_map v) (keep_cong _ _ (inode_ids F v) (λ i m. is_child_map v d n i))

  pub walk_map : (v : Volume A) (d : ℕ) (ns : List Bytes) → walk G (over_volume f v) d ns ≡ walk F v d ns
  unfolding walk
  walk_map v d [] = refl
  walk_map v d (n ∷ ns) = rw (children_map v d n) (go (is_directory_id d) (only (children F v d n)) (λ i. walk_map v i ns))
    where
      go : (b : Bool) (o : Only ℕ) → ((i : ℕ) → walk G (over_volume f v) i ns ≡ walk F v i ns)
          → onward b o (λ i. walk G (over_volume f v) i ns) ≡ onward b o (λ i. walk F v i ns)
      go false o ih = refl
      go true nobody ih = refl
      go true several ih = refl
      go true (one i) ih = ih i

  pub lookup_names_map : (v : Volume A) (ns : List Bytes) → lookup_names G (over_volume f v) ns ≡ lookup_names F v ns
  unfolding lookup_names
  lookup_names_map v ns = walk_map v root_id ns

  -- contents
  pub owns_map : (v : Volume A) (i j : ℕ) → owns G (block_of G (over_volume f v)) i j ≡ owns F (block_of F v) i j
  unfolding owns
  owns_map v i j = rw (owns, block_of_map v j) (has_over f (λ r. eqb (G.owner r) i) (λ r. eqb (F.owner r) i) (λ r. rw (w.owner r)) (block_of F v j))

  pub owned_map : (v : Volume A) (i : ℕ) → owned G (over_volume f v) i ≡ owned F v i
  unfolding owned
  owned_map v i = rw (owned, block_ids_map v) (keep_cong _ _ (block_ids F v) (λ j m. owns_map v i j))

  unnamed_map : (v : Volume A) (os : List ℕ) (i : ℕ) → unnamed G (block_of G (over_volume f v)) os i ≡ unnamed F (block_of F v) os i
  unfolding unnamed
  unnamed_map v os i = all_cong (λ j. not (has (λ r. eqb (G.previous r) i) (block_of G (over_volume f v) j))) _ os
      (λ j m. rw (
        block_of_map v j,
        has_over f (λ r. eqb (G.previous r) i) (λ r. eqb (F.previous r) i) (λ r. rw (w.previous r)) (block_of F v j),
      ))

  pub last_block_map : (v : Volume A) (i : ℕ) → last_block G (over_volume f v) i ≡ last_block F v i
  unfolding last_block
  last_block_map v i = rw (last_block, owned_map v i)
      (ap (λ l. chain_start (only l)) (keep_cong _ _ (owned F v i) (λ j m. unnamed_map v (owned F v i) j)))

  pub chain_back_map : (v : Volume A) (i k j : ℕ) → chain_back G (block_of G (over_volume f v)) i k j ≡ over (map f) (chain_back F (block_of F v) i k j)
  unfolding chain_back
  chain_back_map v i zero j = go (eqb j NONE)
    where
      go : (b : Bool) → cond b (some []) none ≡ over (map f) (cond b (some []) none)
      go true = refl
      go false = refl
  chain_back_map v i (suc k) j = rw (owns_map v i j, block_of_map v j) (go (owns F (block_of F v) i j) (block_of F v j) (chain_back_map v i k))
    where
      go : (b : Bool) (o : Option A)
          → ((j : ℕ) → chain_back G (block_of G (over_volume f v)) i k j ≡ over (map f) (chain_back F (block_of F v) i k j))
          → cond b (bind (over f o) (λ r. snoc (chain_back G (block_of G (over_volume f v)) i k (G.previous r)) r)) none
          ≡ over (map f) (cond b (bind o (λ r. snoc (chain_back F (block_of F v) i k (F.previous r)) r)) none)
      go true none ih = refl
      go true (some r) ih = rw (w.previous r, ih (F.previous r)) (snoc_over f (chain_back F (block_of F v) i k (F.previous r)) r)
      go false o ih = refl

  pub file_blocks_map : (v : Volume A) (i : ℕ) → file_blocks G (over_volume f v) i ≡ over (map f) (file_blocks F v i)
  unfolding file_blocks
  file_blocks_map v i = rw (file_blocks, last_block_map v i, owned_map v i) (go (last_block F v i))
    where
      go : (o : Option ℕ) → bind o (chain_back G (block_of G (over_volume f v)) i (length (owned F v i)))
          ≡ over (map f) (bind o (chain_back F (block_of F v) i (length (owned F v i))))
      go none = refl
      go (some j) = chain_back_map v i (length (owned F v i)) j

  pub text_of_map : (bs : List A) → text_of G (map f bs) ≡ text_of F bs
  unfolding text_of
  text_of_map [] = refl
  text_of_map (b ∷ bs) = rw (w.text b, text_of_map bs)

  pub headers_from_map : (p : ℕ) (bs : List A) → headers_from G p (map f bs) ≡ headers_from F p bs
  unfolding headers_from
  headers_from_map p [] = refl
  headers_from_map p (b ∷ bs) = rw (w.text b, headers_from_map (p - length (F.text b)) bs, length-map bs f)

  -- the tree, line by line
  pub name_of_map : (v : Volume A) (i : ℕ) → name_of G (over_volume f v) i ≡ name_of F v i
  unfolding name_of
  name_of_map v i = rw (name_of, inode_of_map v i) (go (inode_of F v i))
    where
      go : (o : Option A) → ◌≡◌ {A = Bytes} (elim (over f o) [ none ↦ [] | some r ↦ G.name r ]) (elim o [ none ↦ [] | some r ↦ F.name r ])
      go none = refl
      go (some r) = w.name r

  pub comes_before_map : (v : Volume A) (i j : ℕ) → comes_before G (over_volume f v) i j ≡ comes_before F v i j
  unfolding comes_before
  comes_before_map v i j = rw (comes_before, name_of_map v i, name_of_map v j)

  pub is_live_child_map : (v : Volume A) (d i : ℕ) → is_live_child G (over_volume f v) d i ≡ is_live_child F v d i
  unfolding is_live_child
  is_live_child_map v d i = rw (
    is_live_child,
    inode_of_map v i,
    fate_of_map v i,
    has_over f (λ r. eqb (G.parent r) d) (λ r. eqb (F.parent r) d) (λ r. rw (w.parent r)) (inode_of F v i),
  )

  pub entries_of_map : (v : Volume A) (d : ℕ) → entries_of G (over_volume f v) d ≡ entries_of F v d
  unfolding entries_of
  entries_of_map v d =
      rw (entries_of, inode_ids_map v, sort_cong (comes_before G (over_volume f v)) (comes_before F v) (inode_ids F v) (λ i j m n. comes_before_map v i j))
      (keep_cong _ _ (sort (comes_before F v) (inode_ids F v)) (λ i m. is_live_child_map v d i))

  pub show_directory_map : (v : Volume A) (k d : ℕ) → show_directory G (over_volume f v) k d ≡ show_directory F v k d
  unfolding show_directory show_entry
  show_directory_map v zero d = ap deeper_for (entries_of_map v d)
  show_directory_map v (suc k) d = rw (entries_of_map v d) (joined_cong
      (show_entry (show_directory G (over_volume f v) k) (most_depth - k)) (show_entry (show_directory F v k) (most_depth - k)) (entries_of F v d)
      (λ i m. rw (show_directory_map v k i)))

  pub tree_lines_map : (v : Volume A) → tree_lines G (over_volume f v) ≡ tree_lines F v
  unfolding tree_lines
  tree_lines_map v = ap (λ l. shown 0 root_id ∷ l) (show_directory_map v most_depth root_id)

  size_word_map : (o : Option (List A)) → size_word G (over (map f) o) ≡ size_word F o
  size_word_map none = refl
  size_word_map (some bs) = rw (text_of_map bs)

  pub words_of_map : (v : Volume A) (i : ℕ) → words_of G (over_volume f v) i ≡ words_of F v i
  unfolding words_of
  words_of_map v i = rw (words_of, name_of_map v i, file_blocks_map v i, size_word_map (file_blocks F v i))

  pub line_text_map : (v : Volume A) (l : Line) → line_text G (over_volume f v) l ≡ line_text F v l
  line_text_map v (shown d i) = ap (line_of d) (words_of_map v i)
  line_text_map v deeper = refl

  pub tree_text_map : (v : Volume A) → tree_text G (over_volume f v) ≡ tree_text F v
  unfolding tree_text
  tree_text_map v =
      rw (tree_lines_map v) (joined_cong (line_text G (over_volume f v)) (line_text F v) (tree_lines F v) (λ l m. line_text_map v l))
