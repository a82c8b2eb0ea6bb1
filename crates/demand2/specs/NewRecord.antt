-- Records as writers make them: whole, of their kind, and with the fields that were meant.
use Rattle.std.specs.Prelude.{ℕ, ◌≡◌, true, false}
use mathlib.Core.List.{List}
use Rattle.format.specs.Bytes.{Bytes}
use Rattle.format.specs.Record.{record_size, record_id, record_sequence}
use Rattle.format_laws.specs.Crc.{Octets}
use Rattle.volume.specs.View.{by_bytes}
use Rattle.calls.specs.Image.{put}
use Rattle.calls.specs.Areas.{file_areas}
use Rattle.calls.specs.declared.Descriptor.{Descriptor}
use Rattle.demand2.specs.Area.{Whole}
use Rattle.demand2.specs.Store.{free_place, RecordFits, FirstWithRoom}

pub record IsInode (b : Bytes) (id sequence parent : ℕ) (name : Bytes) : Type 0 where
  pub whole : Whole record_size b
  pub no_block : by_bytes.is_block b ≡ false
  pub id_is : record_id b ≡ id
  pub sequence_is : record_sequence b ≡ sequence
  pub parent_is : by_bytes.parent b ≡ parent
  pub name_is : by_bytes.name b ≡ name
  pub octets : Octets b

pub record IsBlock (b : Bytes) (id sequence owner previous : ℕ) (text : Bytes) : Type 0 where
  pub whole : Whole record_size b
  pub is_block : by_bytes.is_block b ≡ true
  pub id_is : record_id b ≡ id
  pub sequence_is : record_sequence b ≡ sequence
  pub owner_is : by_bytes.owner b ≡ owner
  pub previous_is : by_bytes.previous b ≡ previous
  pub text_is : by_bytes.text b ≡ text
  pub octets : Octets b

-- one record, stored where it fits first
pub record WrittenOne (image image' : Bytes) (ds : List Descriptor) (b : Bytes) : Type 0 where
  pub area : Descriptor
  pub fits : RecordFits image ds area b
  pub first : FirstWithRoom image (file_areas image ds) area b
  pub image_is : image' ≡ put image (free_place image area) b
