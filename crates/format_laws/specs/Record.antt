-- What an acceptable record tells, for either kind: laws for callers, who never open the acceptance rule.
use Rattle.std.specs.Prelude.{ℕ, ◌+◌, ◌%◌, ◌≤◌, ◌<◌, ◌≡◌, refl, ◌⊎◌, ◌≢◌, Bool, true, false, cond, ◌&&◌, ◌||◌, length, take, drop, leb, eqb}
use Rattle.std.proofs.Common.{sym, ◌∙◌, inl, inr, arith}
use Rattle.std.proofs.Math.Path.{ap}
use Rattle.std.proofs.Math.Logic.{⊎_elim}
use borrow.Author.Tests.{leb-true, le-leb, lt-leb, eqb-true, eq-eqb}
use Rattle.format.specs.Bytes.{Bytes, byte_at, le16, le32}
use Rattle.format.specs.Crc.{check}
use Rattle.format.specs.Record.{Kind, inode, block, check_right, well_formed, declared_size, acceptable, record_size}
use Rattle.format.specs.Record.{record_id, record_link, inode_reserved, name_length, name_good, inode_rule, inode_rules}
use Rattle.format_laws.specs.Bytes.{same_byte, same_le16, same_take, same_long, take_byte, take_le32}

pub and_left : (a b : Bool) → (a && b) ≡ true → a ≡ true
and_left true b e = refl
and_left false b e = e

pub and_right : (a b : Bool) → (a && b) ≡ true → b ≡ true
and_right true b e = e
and_right false b e = cc

pub or_cases : (a b : Bool) → (a || b) ≡ true → (a ≡ true) ⊎ (b ≡ true)
or_cases true b e = inl refl
or_cases false b e = inr e

-- what the laws ask of a kind: its header tells the length of its body, and its magic is not of erased or zero bytes
pub record LawfulKind (k : Kind) : Type 0 where
  pub magic_inside : 4 ≤ k.header_size
  pub length_inside : (l m : Bytes) → take k.header_size l ≡ take k.header_size m → k.body_length l ≡ k.body_length m
  pub not_zero : k.magic % 256 ≢ 0
  pub not_erased : k.magic % 256 ≢ 0xff

pub inode_lawful : LawfulKind inode
inode_lawful = record {
  magic_inside = omega arith;
  length_inside = λ l m e. same_byte 20 l m e 17 (omega arith);
  not_zero = λ e. omega arith;
  not_erased = λ e. omega arith;
}

pub block_lawful : LawfulKind block
block_lawful = record {
  magic_inside = omega arith;
  length_inside = λ l m e. same_le16 24 l m e 20 (omega arith);
  not_zero = λ e. omega arith;
  not_erased = λ e. omega arith;
}

-- a record of the kind k stands at the front of t
module _ (k : Kind) (t : Bytes) (a : acceptable k t ≡ true) where
  -- it lies inside its area
  pub kind_inside : declared_size k t ≤ length t
  unfolding acceptable
  kind_inside = leb-true _ _ (and_left (leb (declared_size k t) (length t)) (well_formed k (take (declared_size k t) t)) a)

  pub kind_formed : well_formed k (take (declared_size k t) t) ≡ true
  unfolding acceptable
  kind_formed = and_right (leb (declared_size k t) (length t)) (well_formed k (take (declared_size k t) t)) a

-- of the bytes b of a whole record
module _ (k : Kind) (b : Bytes) (w : well_formed k b ≡ true) where
  abbrev magic_test : Bool
  magic_test = eqb (le32 b 0) k.magic

  pub formed_magic : le32 b 0 ≡ k.magic
  unfolding well_formed
  formed_magic =
      eqb-true _ _ (and_left (eqb (le32 b 0) k.magic) (k.rules b) (and_left (eqb (le32 b 0) k.magic && k.rules b) (check_right k b) w))

  pub formed_rules : k.rules b ≡ true
  unfolding well_formed
  formed_rules = and_right (eqb (le32 b 0) k.magic) (k.rules b) (and_left (eqb (le32 b 0) k.magic && k.rules b) (check_right k b) w)

  pub formed_check : le16 b k.check_offset ≡ check (take k.check_offset b) (drop k.header_size b)
  unfolding well_formed check_right
  formed_check = eqb-true _ _ (and_right (eqb (le32 b 0) k.magic && k.rules b) (check_right k b) w)

-- T-14: the reserved byte of an acceptable inode is 0
pub inode_reserved_lem : (t : Bytes) → acceptable inode t ≡ true → inode_reserved t ≡ 0
unfolding inode_rules
inode_reserved_lem t a =
    let b = take (declared_size inode t) t in
    let rule = inode_rule (record_id b) (record_link b) (name_length b) in
    let r = formed_rules inode b (kind_formed inode t a) in
    let z = and_left (eqb (inode_reserved b) 0) rule (and_left (eqb (inode_reserved b) 0 && rule) (name_good (drop 20 b)) r) in
    sym (take_byte (declared_size inode t) t 16 (omega arith)) ∙ eqb-true _ _ z

module _ (k : Kind) (lk : LawfulKind k) (t : Bytes) (a : acceptable k t ≡ true) where
  pub kind_magic : le32 t 0 ≡ k.magic
  kind_magic =
      let m = lk.magic_inside in
      sym (take_le32 (declared_size k t) t 0 (omega arith)) ∙ formed_magic k (take (declared_size k t) t) (kind_formed k t a)

  -- acceptance depends on the record's own bytes alone
  pub kind_local : (s : Bytes) → take (declared_size k t) t ≡ take (declared_size k t) s
      → (acceptable k s ≡ true) × (declared_size k s ≡ declared_size k t)
  unfolding acceptable
  kind_local s e =
      let header = same_take (declared_size k t) t s e k.header_size (omega arith) in
      let size : declared_size k s ≡ declared_size k t = ap (λ (n : ℕ). k.header_size + n) (sym (lk.length_inside t s header)) in
      let long = same_long (declared_size k t) t s e (kind_inside k t a) in
      (rw (size, le-leb (declared_size k t) (length s) long) (rw e at (kind_formed k t a)), size)

  -- none starts at a zero or an erased byte
  pub kind_marked : (byte_at t 0 ≡ 0) ⊎ (byte_at t 0 ≡ 0xff) → ⊥
  unfolding le32
  kind_marked z = ⊎_elim (λ e. lk.not_zero (omega (arith, kind_magic))) (λ e. lk.not_erased (omega (arith, kind_magic))) z

-- no record is of both kinds
pub one_kind : (t : Bytes) → acceptable block t ≡ true → acceptable inode t ≡ false
one_kind t b = go (acceptable inode t) refl
  where
    go : (a : Bool) → acceptable inode t ≡ a → acceptable inode t ≡ false
    go true a = absurd (omega (arith, kind_magic inode inode_lawful t a, kind_magic block block_lawful t b))
    go false a = a

pub size_inode : (t : Bytes) → acceptable inode t ≡ true → record_size t ≡ declared_size inode t
unfolding record_size
size_inode t a = rw a

pub size_block : (t : Bytes) → acceptable block t ≡ true → record_size t ≡ declared_size block t
unfolding record_size
size_block t b = rw (one_kind t b, b)

pub size_none : (t : Bytes) → acceptable inode t ≡ false → acceptable block t ≡ false → record_size t ≡ 0
unfolding record_size
size_none t a b = rw (a, b)

-- the record at the front of some bytes, by its kind
pub data Stands (t : Bytes) : Type 0 where
  an_inode : acceptable inode t ≡ true → record_size t ≡ declared_size inode t → Stands t
  a_block : acceptable block t ≡ true → record_size t ≡ declared_size block t → Stands t
  nothing : record_size t ≡ 0 → Stands t

pub stands : (t : Bytes) → Stands t
stands t = go (acceptable inode t) refl (acceptable block t) refl
  where
    go : (x : Bool) → acceptable inode t ≡ x → (y : Bool) → acceptable block t ≡ y → Stands t
    go true a y b = an_inode a (size_inode t a)
    go false a true b = a_block b (size_block t b)
    go false a false b = nothing (size_none t a b)

-- a record lies inside its area
pub record_inside : (t : Bytes) → record_size t ≤ length t
record_inside t = go (stands t)
  where
    go : Stands t → record_size t ≤ length t
    go (an_inode a e) = omega (arith, kind_inside inode t a)
    go (a_block b e) = omega (arith, kind_inside block t b)
    go (nothing e) = omega arith

-- no record is shorter than an inode's header
pub record_least : (t : Bytes) → record_size t ≢ 0 → 20 ≤ record_size t
record_least t h = go (stands t)
  where
    go : Stands t → 20 ≤ record_size t
    go (an_inode a e) = omega arith
    go (a_block b e) = omega arith
    go (nothing e) = absurd (h e)

-- acceptance depends on the record's own bytes and room alone
pub record_local : (t s : Bytes) → 0 < record_size t → take (record_size t) s ≡ take (record_size t) t → record_size s ≡ record_size t
record_local t s h q = go (stands t)
  where
    go : Stands t → record_size s ≡ record_size t
    go (an_inode a e) =
        let l = kind_local inode inode_lawful t a s (rw e at (sym q)) in
        size_inode s l.0 ∙ l.1 ∙ sym e
    go (a_block b e) =
        let l = kind_local block block_lawful t b s (rw e at (sym q)) in
        size_block s l.0 ∙ l.1 ∙ sym e
    go (nothing e) = absurd (omega arith)

-- nothing acceptable starts at a blank byte, one that is 0 or FF
pub record_blank : (t : Bytes) → (byte_at t 0 ≡ 0) ⊎ (byte_at t 0 ≡ 0xff) → record_size t ≡ 0
record_blank t z = go (stands t)
  where
    go : Stands t → record_size t ≡ 0
    go (an_inode a e) = absurd (kind_marked inode inode_lawful t a z)
    go (a_block b e) = absurd (kind_marked block block_lawful t b z)
    go (nothing e) = e

-- ---- deciding acceptance: what code that looks at the magic first uses

module _ (k : Kind) (t : Bytes) where
  -- no room for the size that is declared
  pub kind_short : length t < declared_size k t → acceptable k t ≡ false
  unfolding acceptable
  kind_short h = rw (lt-leb (declared_size k t) (length t) h)

  -- the magic is right and there is room: the rules and the check decide
  pub kind_decides : LawfulKind k → le32 t 0 ≡ k.magic → declared_size k t ≤ length t
      → acceptable k t ≡ (k.rules (take (declared_size k t) t) && check_right k (take (declared_size k t) t))
  unfolding acceptable well_formed
  kind_decides lk m h =
      let i = lk.magic_inside in
      rw (le-leb (declared_size k t) (length t) h, take_le32 (declared_size k t) t 0 (omega arith), m, eq-eqb k.magic k.magic refl)

pub only_inode : (t : Bytes) → le32 t 0 ≡ inode.magic → record_size t ≡ cond (acceptable inode t) (declared_size inode t) 0
unfolding record_size
only_inode t m = go (acceptable block t) refl
  where
    go : (b : Bool) → acceptable block t ≡ b
        → cond (acceptable inode t) (declared_size inode t) (cond (acceptable block t) (declared_size block t) 0) ≡ cond (acceptable inode t) (declared_size inode t) 0
    go true b = absurd (omega (arith, kind_magic block block_lawful t b))
    go false b = rw b

pub only_block : (t : Bytes) → le32 t 0 ≡ block.magic → record_size t ≡ cond (acceptable block t) (declared_size block t) 0
unfolding record_size
only_block t m = go (acceptable inode t) refl
  where
    go : (a : Bool) → acceptable inode t ≡ a
        → cond (acceptable inode t) (declared_size inode t) (cond (acceptable block t) (declared_size block t) 0) ≡ cond (acceptable block t) (declared_size block t) 0
    go true a = absurd (omega (arith, kind_magic inode inode_lawful t a))
    go false a = rw a

-- neither magic: no record
pub no_magic : (t : Bytes) → le32 t 0 ≢ inode.magic → le32 t 0 ≢ block.magic → record_size t ≡ 0
no_magic t a b = go (stands t)
  where
    go : Stands t → record_size t ≡ 0
    go (an_inode x e) = absurd (a (kind_magic inode inode_lawful t x))
    go (a_block x e) = absurd (b (kind_magic block block_lawful t x))
    go (nothing e) = e

-- too few bytes for any header: no record
pub too_short : (t : Bytes) → length t < inode.header_size → record_size t ≡ 0
too_short t h = size_none t (kind_short inode t (omega arith)) (kind_short block t (omega arith))

-- the steps of deciding, for a record that has its kind's magic and so is of no other kind; n is the size that it declares
module _ (k : Kind) (lk : LawfulKind k) (t : Bytes) (n : ℕ) (m : le32 t 0 ≡ k.magic) (e : n ≡ declared_size k t)
    (only : record_size t ≡ cond (acceptable k t) (declared_size k t) 0) where
  decided : (b : Bool) → acceptable k t ≡ b → cond b n 0 ≡ record_size t
  decided b a = rw (only, a, e)

  pub no_room : length t < n → 0 ≡ record_size t
  no_room h = decided false (kind_short k t (omega arith))

  module _ (room : n ≤ length t) where
    tested : acceptable k t ≡ (k.rules (take n t) && check_right k (take n t))
    tested = rw e (kind_decides k t lk m (omega arith))

    pub rules_broken : k.rules (take n t) ≡ false → 0 ≡ record_size t
    rules_broken r = decided false (tested ∙ rw r)

    pub check_wrong : k.rules (take n t) ≡ true → check_right k (take n t) ≡ false → 0 ≡ record_size t
    check_wrong r c = decided false (tested ∙ rw (r, c))

    pub record_right : k.rules (take n t) ≡ true → check_right k (take n t) ≡ true → n ≡ record_size t
    record_right r c = decided true (tested ∙ rw (r, c))
