-- What acceptable records give: the ranges of their ids, links and names. Document 01, "Acceptable record".
use Rattle.std.specs.Prelude.{◌≡◌, refl, ◌⊎◌, ◌≢◌, Bool, true, false, cond, ◌&&◌, ◌||◌, ℕ, ◌≤◌, ◌<◌, drop, T, eqb, ltb, leb}
use Rattle.std.proofs.Common.{sym, ◌∙◌, inl, inr, arith, eqb→eq, ltb→lt, leb→le, T_not}
use Rattle.std.proofs.Math.Bool.{not}
use Rattle.std.proofs.Math.Option.{some}
use mathlib.Core.List.{List, Memᴰ}
use Rattle.std.proofs.Math.Dec.{eqb_refl, lt→ltb}
use Rattle.format.specs.Bytes.{Bytes, le32}
use Rattle.format.specs.Ids.{NONE, first_file_id, first_block_id, root_id, is_directory_id, is_file_id, is_inode_id, is_block_id}
use Rattle.format.specs.Record.{Kind, inode, block, well_formed, check_right, inode_rules, inode_rule, block_rules, block_rule, previous_rule}
use Rattle.format.specs.Record.{name_good, record_id, record_link, block_previous, inode_reserved, name_length, data_length, longest_data}
use Rattle.volume.specs.View.{View, by_bytes}
use Rattle.volume.specs.Counting.{Volume, volume_of, inode_of}
use Rattle.volume_laws.specs.Tests.{true→T, and_T, eqb_false}
use Rattle.volume_laws.specs.Lists.{keep_mem}
use Rattle.volume_laws.specs.Counting.{counting_mem}

-- the ranges, for every record of a volume
pub record Sound {A : Type 0} (F : View A) (v : Volume A) : Type 0 where
  pub inode_id : (r : A) → Memᴰ r v.inodes → F.id r < first_block_id
  -- "parent is a directory id .. or parent is NONE (a deletion record)"
  pub inode_parent : (r : A) → Memᴰ r v.inodes → F.parent r ≢ NONE → F.parent r < first_file_id
  -- "Id 0: parent NONE"
  pub root_parent : (r : A) → Memᴰ r v.inodes → F.id r ≡ root_id → F.parent r ≡ NONE
  -- "no '/' or NUL in the name"
  pub inode_name : (r : A) → Memᴰ r v.inodes → T (name_good (F.name r))
  pub block_id : (r : A) → Memᴰ r v.blocks → (first_block_id ≤ F.id r) × (F.id r < NONE)
  -- "owner a file id"
  pub block_owner : (r : A) → Memᴰ r v.blocks → (first_file_id ≤ F.owner r) × (F.owner r < first_block_id)
  -- "previous a block id other than its own, or NONE"
  pub block_previous_lem : (r : A) → Memᴰ r v.blocks → F.previous r ≢ NONE
      → (first_block_id ≤ F.previous r) × (F.previous r < NONE) × (F.previous r ≢ F.id r)

-- the bytes are those of a record of one of the two kinds
abbrev pub Acceptable : Bytes → Type 0
Acceptable b = T (well_formed inode b) ⊎ T (well_formed block b)

-- the parts of the rules
well_formed_lem : (k : Kind) (b : Bytes) → T (well_formed k b) → (le32 b 0 ≡ k.magic) × T (k.rules b)
unfolding well_formed
well_formed_lem k b t =
    let s = (and_T (eqb (le32 b 0) k.magic && k.rules b) (check_right k b) t).0 in
    let m = and_T (eqb (le32 b 0) k.magic) (k.rules b) s in
    (eqb→eq (le32 b 0) k.magic m.0, m.1)

-- what the rule of an inode asks of parent and n, of the root or another
abbrev parent_rule : Bool → ℕ → ℕ → Bool
parent_rule root parent n = cond root (eqb parent NONE && eqb n 0) (eqb parent NONE || (ltb parent first_file_id && ltb 0 n))

inode_rule_lem : (id parent n : ℕ) → T (inode_rule id parent n)
    → (id < first_block_id) × (id ≡ root_id → parent ≡ NONE) × (parent ≢ NONE → parent < first_file_id)
unfolding inode_rule is_inode_id is_directory_id
inode_rule_lem id parent n t = (ltb→lt id first_block_id s.0, root (eqb id root_id) refl s.1, above (eqb id root_id) s.1)
  where
    s : T (ltb id first_block_id) × T (parent_rule (eqb id root_id) parent n)
    s = and_T (ltb id first_block_id) (parent_rule (eqb id root_id) parent n) t

    root : (b : Bool) → eqb id root_id ≡ b → T (parent_rule b parent n)
        → id ≡ root_id → parent ≡ NONE
    root true e u q = eqb→eq parent NONE (and_T (eqb parent NONE) (eqb n 0) u).0
    root false e u q = absurd (eqb_false id root_id e q)

    either : (a b c : Bool) → eqb parent NONE ≡ a → T (a || (b && c)) → parent ≢ NONE → T b
    either true b c e u q = absurd (q (eqb→eq parent NONE (true→T e)))
    either false b c e u q = (and_T b c u).0

    above : (b : Bool) → T (parent_rule b parent n)
        → parent ≢ NONE → parent < first_file_id
    above true u q = absurd (q (eqb→eq parent NONE (and_T (eqb parent NONE) (eqb n 0) u).0))
    above false u q = ltb→lt parent first_file_id (either (eqb parent NONE) (ltb parent first_file_id) (ltb 0 n) refl u q)

between : (a m b : ℕ) → T (leb a m && ltb m b) → (a ≤ m) × (m < b)
between a m b t = let s = and_T (leb a m) (ltb m b) t in (leb→le a m s.0, ltb→lt m b s.1)

previous_rule_lem : (id previous : ℕ) → T (previous_rule id previous) → previous ≢ NONE
    → (first_block_id ≤ previous) × (previous < NONE) × (previous ≢ id)
unfolding previous_rule is_block_id
previous_rule_lem id previous t q = go (eqb previous NONE) refl t
  where
    go : (b : Bool) → eqb previous NONE ≡ b → T (b || (not (eqb previous id) && (leb first_block_id previous && ltb previous NONE)))
        → (first_block_id ≤ previous) × (previous < NONE) × (previous ≢ id)
    go true e u = absurd (q (eqb→eq previous NONE (true→T e)))
    go false e u =
        let s = and_T (not (eqb previous id)) (leb first_block_id previous && ltb previous NONE) u in
        let m = between first_block_id previous NONE s.1 in
        (m.0, m.1, λ z. T_not (eqb previous id) s.0 (rw z (eqb_refl id)))

block_rule_lem : (id owner previous n : ℕ) → T (block_rule id owner previous n)
    → T (is_block_id id) × T (is_file_id owner) × T (previous_rule id previous)
unfolding block_rule
block_rule_lem id owner previous n t =
    let a = (and_T (is_block_id id && is_file_id owner && previous_rule id previous) (ltb 0 n && leb n longest_data) t).0 in
    let b = and_T (is_block_id id && is_file_id owner) (previous_rule id previous) a in
    let c = and_T (is_block_id id) (is_file_id owner) b.0 in
    (c.0, c.1, b.1)

-- each kind is known by its magic
inode_no_block : (b : Bytes) → T (well_formed inode b) → ¬ T (by_bytes.is_block b)
inode_no_block b t u =
    let m = (well_formed_lem inode b t).0 in
    let n = eqb→eq (le32 b 0) block.magic u in
    let z : inode.magic ≡ block.magic = sym m ∙ n in
    omega arith

block_is : (b : Bytes) → T (well_formed block b) → T (by_bytes.is_block b)
block_is b t = rw (well_formed_lem block b t).0 tt

pub acceptable_inode : (b : Bytes) → Acceptable b → T (not (by_bytes.is_block b)) → T (inode_rules b)
acceptable_inode b (inl t) n = (well_formed_lem inode b t).1
acceptable_inode b (inr t) n = absurd (T_not (by_bytes.is_block b) n (block_is b t))

pub acceptable_block : (b : Bytes) → Acceptable b → T (by_bytes.is_block b) → T (block_rules b)
acceptable_block b (inl t) n = absurd (inode_no_block b t n)
acceptable_block b (inr t) n = (well_formed_lem block b t).1

-- acceptable records make a sound volume
module _ (rs : List Bytes) (h : (b : Bytes) → Memᴰ b rs → Acceptable b) where
  inode_rules_lem : (b : Bytes) → Memᴰ b (volume_of by_bytes rs).inodes
      → T (inode_rule (record_id b) (record_link b) (name_length b)) × T (name_good (drop 20 b))
  unfolding volume_of inode_rules
  inode_rules_lem b m =
      let n = keep_mem (λ b. not (by_bytes.is_block b)) rs m in
      let rule = inode_rule (record_id b) (record_link b) (name_length b) in
      let r = and_T (eqb (inode_reserved b) 0 && rule) (name_good (drop 20 b)) (acceptable_inode b (h b n.0) n.1) in
      ((and_T (eqb (inode_reserved b) 0) rule r.0).1, r.1)

  block_rules_lem : (b : Bytes) → Memᴰ b (volume_of by_bytes rs).blocks
      → T (is_block_id (record_id b)) × T (is_file_id (record_link b)) × T (previous_rule (record_id b) (block_previous b))
  unfolding volume_of block_rules
  block_rules_lem b m =
      let n = keep_mem by_bytes.is_block rs m in
      block_rule_lem (record_id b) (record_link b) (block_previous b) (data_length b) (acceptable_block b (h b n.0) n.1)

  pub sound : Sound by_bytes (volume_of by_bytes rs)
  unfolding is_block_id is_file_id
  sound = record {
    inode_id = λ b m. (inode_rule_lem (record_id b) (record_link b) (name_length b) (inode_rules_lem b m).0).0;
    inode_parent = λ b m. (inode_rule_lem (record_id b) (record_link b) (name_length b) (inode_rules_lem b m).0).2;
    root_parent = λ b m. (inode_rule_lem (record_id b) (record_link b) (name_length b) (inode_rules_lem b m).0).1;
    inode_name = λ b m. (inode_rules_lem b m).1;
    block_id = λ b m. between first_block_id (record_id b) NONE (block_rules_lem b m).0;
    block_owner = λ b m. between first_file_id (record_link b) first_block_id (block_rules_lem b m).1;
    block_previous_lem = λ b m. previous_rule_lem (record_id b) (block_previous b) (block_rules_lem b m).2;
  }

-- of the records that count
module _ {A : Type 0} (F : View A) (v : Volume A) (s : Sound F v) where
  -- a parent is a directory
  pub parent_directory : (i : ℕ) (r : A) → inode_of F v i ≡ some r → F.parent r ≢ NONE → T (is_directory_id (F.parent r))
  unfolding is_directory_id
  parent_directory i r e n = lt→ltb (F.parent r) first_file_id (s.inode_parent r (counting_mem F v.inodes i r e).0 n)

  -- inodes and blocks have no id in common
  pub kinds_apart : (r b : A) → Memᴰ r v.inodes → Memᴰ b v.blocks → F.id r ≢ F.id b
  kinds_apart r b m n e = omega (arith, s.inode_id r m, (s.block_id b n).0)

-- fewer records are sound too
pub sound_sub : {A : Type 0} (F : View A) (v w : Volume A)
    → ((r : A) → Memᴰ r w.inodes → Memᴰ r v.inodes) → ((r : A) → Memᴰ r w.blocks → Memᴰ r v.blocks)
    → Sound F v → Sound F w
sound_sub F v w si sb s = record {
  inode_id = λ r m. s.inode_id r (si r m);
  inode_parent = λ r m. s.inode_parent r (si r m);
  root_parent = λ r m. s.root_parent r (si r m);
  inode_name = λ r m. s.inode_name r (si r m);
  block_id = λ r m. s.block_id r (sb r m);
  block_owner = λ r m. s.block_owner r (sb r m);
  block_previous_lem = λ r m. s.block_previous_lem r (sb r m);
}
