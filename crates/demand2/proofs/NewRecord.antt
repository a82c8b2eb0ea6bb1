-- Records as writers make them: whole, of their kind, and with the fields that were meant.
use Rattle.std.specs.Prelude.{ℕ, ◌≤◌, ◌<◌, ◌≡◌, refl, ◌≢◌, true, false, length, eqb, ltb}
use Rattle.std.proofs.Common.{ap, ◌∙◌, arith, lt→ltb}
use Rattle.std.proofs.Math.Option.{Option, none, some}
use mathlib.Core.List.{List, [], ◌∷◌, append-nil, Memᴰ}
use Rattle.format.specs.Bytes.{Bytes}
use Rattle.format.specs.Ids.{NONE, first_block_id, root_id, is_inode_id, is_directory_id}
use Rattle.format.specs.Record.{inode, block, inode_rule, acceptable}
use Rattle.format.specs.Encoding.{inode_bytes, block_bytes}
use Rattle.format_laws.specs.Crc.{Octets}
use Rattle.format_laws.specs.Record.{kind_magic, inode_lawful, block_lawful}
use Rattle.format_laws.specs.Encoding.{MeantInode, MeantBlock, inode_id, inode_sequence, inode_parent, inode_name, inode_written, inode_size}
use Rattle.format_laws.specs.Encoding.{block_id, block_sequence, block_owner, block_previous_lem, block_text, block_written, block_size}
use Rattle.volume.specs.Lists.{keep, has, only}
use Rattle.volume.specs.View.{View}
use Rattle.volume.specs.Counting.{Volume, block_of, block_ids}
use Rattle.volume.specs.Contents.{owns, owned, last_block, chain_back, file_blocks}
use Rattle.volume_laws.specs.Tests.{T→true, eqb_differ}
use Rattle.volume_laws.specs.Lists.{keep_none}
use Rattle.volume_laws.specs.Counting.{counting_mem}
use Rattle.calls.specs.Image.{put}
use Rattle.calls.specs.Areas.{file_areas}
use Rattle.calls.specs.Mount.{bad_description}
use Rattle.calls.specs.Storing.{Store, spaces, first_fit, place_all, store_all}
use Rattle.calls.specs.declared.Descriptor.{Descriptor}
use Rattle.demand2.specs.Octet.{octets_put, octets_inode, octets_block}
use Rattle.demand2.specs.Found.{directory_low}
use Rattle.demand2.specs.Store.{free_place}
use Rattle.demand2.proofs.Places.{files_distinct, first_fitted, bound, prepended}
use Rattle.demand2.specs.NewRecord.{IsInode, IsBlock, WrittenOne}

-- an inode other than the root may have a directory as parent, and a name of some bytes
pub child_rule : (id d n : ℕ) → id < first_block_id → id ≢ root_id → is_directory_id d ≡ true → 1 ≤ n → inode_rule id d n ≡ true
unfolding inode_rule is_inode_id
child_rule id d n low no_root_lem dir some_bytes = rw (
  T→true {b = ltb id first_block_id} (lt→ltb id first_block_id low),
  eqb_differ id root_id no_root_lem,
  eqb_differ d NONE (λ e. omega (arith, directory_low d dir)),
  dir,
  T→true {b = ltb 0 n} (lt→ltb 0 n some_bytes),
)

pub inode_made : (id sequence parent : ℕ) (name : Bytes) → MeantInode id sequence parent name
    → IsInode (inode_bytes id sequence parent name) id sequence parent name
inode_made id sequence parent name m =
    let b = inode_bytes id sequence parent name in
    let e = append-nil b in
    let w = inode_written id sequence parent name m [] in
    let a : acceptable inode b ≡ true = rw e at w.0 in
    record {
      whole = record { some_bytes = omega (arith, inode_size id sequence parent name); all_of_it = rw e at w.1 };
      no_block = rw (kind_magic inode inode_lawful b a);
      id_is = rw e at (inode_id id sequence parent name m []);
      sequence_is = rw e at (inode_sequence id sequence parent name m []);
      parent_is = rw e at (inode_parent id sequence parent name m []);
      name_is = inode_name id sequence parent name m;
      octets = octets_inode id sequence parent name m.name_fits m.octets;
    }

pub block_made : (id sequence owner previous : ℕ) (text : Bytes) → MeantBlock id sequence owner previous text
    → IsBlock (block_bytes id sequence owner previous text) id sequence owner previous text
block_made id sequence owner previous text m =
    let b = block_bytes id sequence owner previous text in
    let e = append-nil b in
    let w = block_written id sequence owner previous text m [] in
    let a : acceptable block b ≡ true = rw e at w.0 in
    record {
      whole = record { some_bytes = omega (arith, block_size id sequence owner previous text); all_of_it = rw e at w.1 };
      is_block = rw (kind_magic block block_lawful b a);
      id_is = rw e at (block_id id sequence owner previous text m []);
      sequence_is = rw e at (block_sequence id sequence owner previous text m []);
      owner_is = rw e at (block_owner id sequence owner previous text m []);
      previous_is = rw e at (block_previous_lem id sequence owner previous text m []);
      text_is = block_text id sequence owner previous text m;
      octets = octets_block id sequence owner previous text m.octets;
    }

-- what `place_all` places alone is so stored, whatever its bytes
pub one_placed : (image : Bytes) (ds : List Descriptor) → bad_description image ds ≡ false → (b : Bytes) (l : List Store)
    → place_all (spaces image (file_areas image ds)) (b ∷ []) ≡ some l → WrittenOne image (store_all image l) ds b
unfolding place_all store_all
one_placed image ds described b l e =
    let f = bound (first_fit (length b) (spaces image (file_areas image ds))) _ l e in
    let p = prepended _ (place_all f.0.left []) l f.2 in
    let t = first_fitted image ds described b (file_areas image ds) (files_distinct image ds described) (λ d m. m) f.0 f.1 in
    record {
      area = t.area;
      fits = t.fits;
      first = t.first;
      image_is = ap (store_all image) p.2 ∙ alone f.0.place p.0 p.1 ∙ ap (λ (n : ℕ). put image n b) t.placed_at;
    }
  where
    alone : (n : ℕ) (m : List Store) → some [] ≡ some m → store_all image (record { place = n; bytes = b } ∷ m) ≡ put image n b
    alone n m q = let z : m ≡ [] = cc in rw z

pub octets_one : {image image' b : Bytes} {ds : List Descriptor} → WrittenOne image image' ds b → Octets b → Octets image → Octets image'
octets_one {image} {b = b} w k o = rw w.image_is (octets_put image (free_place image w.area) b o k)

-- "no blocks means empty"
pub no_blocks : {A : Type 0} (F : View A) (v : Volume A) (f : ℕ) → ((r : A) → Memᴰ r v.blocks → F.owner r ≢ f) → file_blocks F v f ≡ some []
unfolding file_blocks last_block chain_back only keep owns owned
no_blocks {A} F v f h = rw (file_blocks, last_block, none_owned)
  where
    not_owned : (i : ℕ) (o : Option A) → block_of F v i ≡ o → has (λ r. eqb (F.owner r) f) o ≡ false
    not_owned i none q = refl
    not_owned i (some r) q = eqb_differ (F.owner r) f (h r (counting_mem F v.blocks i r q).0)

    none_owned : owned F v f ≡ []
    none_owned = keep_none (owns F (block_of F v) f) (block_ids F v) (λ i m. not_owned i (block_of F v i) refl)
