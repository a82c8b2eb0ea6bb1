-- The records that survive a collection: all that is said of the copies stands in one record.
use Rattle.std.specs.Prelude.{◌≤◌, ◌<◌, ◌≡◌, refl, ◌⊎◌, ◌≢◌, Bool, true, false, ◌&&◌, ◌||◌, length, drop, eqb}
use Rattle.std.proofs.Common.{sym, ap, inl, inr, ⊎_elim}
use Rattle.std.proofs.Math.Bool.{not}
use Rattle.std.proofs.Math.Option.{Option, none, some}
use mathlib.Core.List.Memᴰ
use mathlib.Core.List.{List, [], ◌∷◌, ◌++◌, Memᴰ}
use Rattle.std.proofs.Math.Decide.{ℕ_discrete}
use Rattle.std.proofs.Math.Dec.{T, eqb_refl, T_not}
use Rattle.format.specs.Bytes.{Bytes}
use Rattle.format.specs.AreaHeader.{area_header_size}
use Rattle.format.specs.Record.{record_size, record_id, record_link}
use Rattle.format.specs.Reading.{area_records}
use Rattle.volume.specs.Lists.{keep, all, has, same}
use Rattle.volume.specs.View.{by_bytes}
use Rattle.volume.specs.Counting.{Volume, inode_of, block_of}
use Rattle.volume.specs.Fate.{Fate, live, dead, orphan, is_dead, fate_of, block_dead}
use Rattle.volume_laws.specs.Tests.{true→T, and_T, T_and, T_other, eqb_self}
use Rattle.volume_laws.specs.Lists.{keep_mem, mem_keep, all_mem, same_refl, same_eq}
use Rattle.calls.specs.Mount.{bytes_of}
use Rattle.calls.specs.Collect.{counts, first_places, drops_block, names_inode, drops_inode, drops, copies}
use Rattle.calls_laws.specs.Records.{taken_whole}
use Rattle.image_laws.specs.Stores.{joined_bytes}
use Rattle.collect_laws.specs.Room.{copies_fit}

-- an inode that is left out: dead, and no record but its own in the source names it
pub record InodeLeft (v : Volume Bytes) (source elsewhere : List Bytes) (b : Bytes) : Type 0 where
  pub died : fate_of by_bytes v (record_id b) ≡ dead
  pub unnamed : (c : Bytes) → Memᴰ c source → record_link c ≡ record_id b → record_id c ≡ record_id b
  pub none_elsewhere : (c : Bytes) → Memᴰ c elsewhere → record_id c ≢ record_id b
  pub unnamed_elsewhere : (c : Bytes) → Memᴰ c elsewhere → record_link c ≢ record_id b

-- a block that is left out: its owner is dead, and no other file area has a record of its id
pub record BlockLeft (v : Volume Bytes) (elsewhere : List Bytes) (b : Bytes) : Type 0 where
  pub died : fate_of by_bytes v (by_bytes.owner b) ≡ dead
  pub none_elsewhere : (c : Bytes) → Memᴰ c elsewhere → record_id c ≢ record_id b

-- What is said of the copies bs of a collection: v is the volume before it, area the source, elsewhere the records of the other file areas
pub record Survivors (v : Volume Bytes) (area : Bytes) (elsewhere bs : List Bytes) : Type 0 where
  -- one behind the other they fit behind the header of an area as long as the source
  pub fit : length (joined_bytes bs) ≤ length (drop area_header_size area)
  -- each is a whole record
  pub some_bytes : (b : Bytes) → Memᴰ b bs → 0 < length b
  pub accepted : (b : Bytes) → Memᴰ b bs → record_size b ≡ length b
  -- "the counting records that lie in the source .. in order of their first place there, each once"
  pub from_source : (b : Bytes) → Memᴰ b bs → Memᴰ b (bytes_of (area_records record_size area))
  pub inode_counts : (b : Bytes) → Memᴰ b bs → by_bytes.is_block b ≡ false → inode_of by_bytes v (record_id b) ≡ some b
  pub block_counts : (b : Bytes) → Memᴰ b bs → by_bytes.is_block b ≡ true → block_of by_bytes v (record_id b) ≡ some b
  pub survives : Bytes → Bool
  pub in_order : bs ≡ keep survives (first_places (bytes_of (area_records record_size area)))
  -- a counting record of the source is among them, or is left out
  pub inode_kept : (b : Bytes) → Memᴰ b (bytes_of (area_records record_size area)) → by_bytes.is_block b ≡ false
      → inode_of by_bytes v (record_id b) ≡ some b
      → Memᴰ b bs ⊎ (¬ Memᴰ b bs × InodeLeft v (bytes_of (area_records record_size area)) elsewhere b)
  pub block_kept : (b : Bytes) → Memᴰ b (bytes_of (area_records record_size area)) → by_bytes.is_block b ≡ true
      → block_of by_bytes v (record_id b) ≡ some b → Memᴰ b bs ⊎ (¬ Memᴰ b bs × BlockLeft v elsewhere b)

-- ---- each record once

first_mem : (l : List Bytes) {b : Bytes} → Memᴰ b (first_places l) → Memᴰ b l
unfolding first_places
first_mem [] m = m
first_mem (c ∷ l) m = ⊎_elim Memᴰ.head (λ n. Memᴰ.tail (first_mem l (keep_mem _ (first_places l) n).0)) (Memᴰ.cases_cons m)

mem_first : (l : List Bytes) (b : Bytes) → Memᴰ b l → Memᴰ b (first_places l)
unfolding first_places
mem_first [] b m = m
mem_first (c ∷ l) b m = go (same c b) refl (mem_first l b)
  where
    go : (t : Bool) → same c b ≡ t → (Memᴰ b l → Memᴰ b (first_places l)) → Memᴰ b (c ∷ keep (λ d. not (same c d)) (first_places l))
    go true e ih = Memᴰ.head (sym (same_eq c b (true→T e)))
    go false e ih = ⊎_elim Memᴰ.head (λ n. Memᴰ.tail (mem_keep (λ d. not (same c d)) (first_places l) (ih n) (rw e tt)))
        (Memᴰ.cases_cons m)

-- ---- who is copied

is_dead_lem : (f : Fate) → T (is_dead f) → f ≡ dead
is_dead_lem live t = absurd t
is_dead_lem dead t = refl
is_dead_lem orphan t = absurd t

module _ (v : Volume Bytes) (source elsewhere : List Bytes) where
  copy_from : (b : Bytes) → Memᴰ b (copies v source elsewhere) → Memᴰ b source × T (counts v b) × T (not (drops v source elsewhere b))
  unfolding copies
  copy_from b m =
      let k = keep_mem (λ b. counts v b && not (drops v source elsewhere b)) (first_places source) m in
      let t = and_T (counts v b) (not (drops v source elsewhere b)) k.1 in
      (first_mem source k.0, t.0, t.1)

  copied : (b : Bytes) → Memᴰ b source → T (counts v b) → drops v source elsewhere b ≡ false → Memᴰ b (copies v source elsewhere)
  unfolding copies
  copied b m t e =
      mem_keep (λ b. counts v b && not (drops v source elsewhere b)) (first_places source) (mem_first source b m)
      (T_and (counts v b) (not (drops v source elsewhere b)) t (rw e tt))

  -- copied, or dropped
  kept : (P : Type 0) (b : Bytes) → Memᴰ b source → T (counts v b) → (drops v source elsewhere b ≡ true → P)
      → Memᴰ b (copies v source elsewhere) ⊎ (¬ Memᴰ b (copies v source elsewhere) × P)
  kept P b m t f = go (drops v source elsewhere b) refl
    where
      go : (x : Bool) → drops v source elsewhere b ≡ x → Memᴰ b (copies v source elsewhere) ⊎ (¬ Memᴰ b (copies v source elsewhere) × P)
      go true e = inr (λ n. T_not (drops v source elsewhere b) (copy_from b n).2 (true→T e), f e)
      go false e = inl (copied b m t e)

  same_some : (b : Bytes) (o : Option Bytes) → T (has (same b) o) → o ≡ some b
  same_some b none t = absurd t
  same_some b (some c) t = ap some (sym (same_eq b c t))

  -- a dropped inode
  inode_left : (b : Bytes) → by_bytes.is_block b ≡ false → drops v source elsewhere b ≡ true → InodeLeft v source elsewhere b
  unfolding drops drops_inode names_inode
  inode_left b k e =
      let t : T (drops_inode v source elsewhere b) = rw (drops, k) at (true→T e) in
      let u = and_T (is_dead (fate_of by_bytes v (record_id b))) (all (λ c. not (names_inode (record_id b) c)) rest) t in
      record {
        died = is_dead_lem _ u.0;
        unnamed = in_source u.1;
        none_elsewhere = λ c m q. none_names u.1 c (behind m) (inl q);
        unnamed_elsewhere = λ c m q. none_names u.1 c (behind m) (inr q);
      }
    where
      rest : List Bytes
      rest = keep (λ c. not (eqb (record_id c) (record_id b))) source ++ elsewhere

      names : (c : Bytes) → (record_id c ≡ record_id b) ⊎ (record_link c ≡ record_id b)
          → T (eqb (record_id c) (record_id b) || eqb (record_link c) (record_id b))
      names c (inl q) = rw (q, eqb_self (record_id b)) tt
      names c (inr q) = rw (q, eqb_self (record_id b)) (either (eqb (record_id c) (record_id b)))
        where
          either : (x : Bool) → T (x || true)
          either true = tt
          either false = tt

      none_names : T (all (λ c. not (names_inode (record_id b) c)) rest) → (c : Bytes) → Memᴰ c rest
          → (record_id c ≡ record_id b) ⊎ (record_link c ≡ record_id b) → ⊥
      none_names t c m q = T_not (names_inode (record_id b) c) (all_mem (λ c. not (names_inode (record_id b) c)) rest t m) (names c q)

      in_source : T (all (λ c. not (names_inode (record_id b) c)) rest) → (c : Bytes) → Memᴰ c source → record_link c ≡ record_id b
          → record_id c ≡ record_id b
      in_source t c m q = go (ℕ_discrete (record_id c) (record_id b))
        where
          go : Dec (record_id c ≡ record_id b) → record_id c ≡ record_id b
          go (yes z) = z
          go (no z) = absurd (none_names t c
              (Memᴰ.append_left elsewhere (mem_keep (λ c. not (eqb (record_id c) (record_id b))) source m (T_other (record_id c) (record_id b) z)))
              (inr q))

      behind : {c : Bytes} → Memᴰ c elsewhere → Memᴰ c rest
      behind m = Memᴰ.append_right (keep (λ c. not (eqb (record_id c) (record_id b))) source) m

  -- a dropped block
  block_left : (b : Bytes) → by_bytes.is_block b ≡ true → drops v source elsewhere b ≡ true → BlockLeft v elsewhere b
  unfolding drops drops_block block_dead
  block_left b k e =
      let t : T (drops_block v elsewhere b) = rw (drops, k) at (true→T e) in
      let u = and_T (is_dead (fate_of by_bytes v (by_bytes.owner b))) (all (λ c. not (eqb (record_id c) (record_id b))) elsewhere) t in
      record {
        died = is_dead_lem _ u.0;
        none_elsewhere = λ c m q. T_not (eqb (record_id c) (record_id b)) (all_mem (λ c. not (eqb (record_id c) (record_id b))) elsewhere u.1 m)
            (rw q (eqb_refl (record_id b)));
      }

-- what document 01 says is copied
pub copies_survive : (v : Volume Bytes) (area : Bytes) (elsewhere : List Bytes)
    → Survivors v area elsewhere (copies v (bytes_of (area_records record_size area)) elsewhere)
unfolding copies counts
copies_survive v area elsewhere =
    let source = bytes_of (area_records record_size area) in
    let from = copy_from v source elsewhere in
    record {
      fit = copies_fit v area elsewhere;
      some_bytes = λ b m. (taken_whole area b (from b m).0).0;
      accepted = λ b m. (taken_whole area b (from b m).0).1;
      from_source = λ b m. (from b m).0;
      inode_counts = λ b m k. same_some v source elsewhere b (inode_of by_bytes v (record_id b)) (rw (counts, k) at (from b m).1);
      block_counts = λ b m k. same_some v source elsewhere b (block_of by_bytes v (record_id b)) (rw (counts, k) at (from b m).1);
      survives = λ b. counts v b && not (drops v source elsewhere b);
      in_order = refl;
      inode_kept = λ b m k e. kept v source elsewhere _ b m (rw (counts, k, e) (same_refl b)) (inode_left v source elsewhere b k);
      block_kept = λ b m k e. kept v source elsewhere _ b m (rw (counts, k, e) (same_refl b)) (block_left v source elsewhere b k);
    }
