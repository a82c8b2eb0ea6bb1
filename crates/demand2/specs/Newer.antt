-- A newer record of an inode: what is not at or below it keeps its chain of parents, and what is has its fate.
use mathlib.Core.List.{Memᴰ}
use Rattle.volume.specs.View.{View}
use Rattle.volume.specs.Counting.{Volume, inode_ids}
use Rattle.volume_laws.specs.Counting.{Agree}
use Rattle.demand2.specs.Added.{Added}

-- w is v, which passes check 6, and the record r, newer than every other of its id, which v has
pub record Newer {A : Type 0} (F : View A) (v w : Volume A) (r : A) : Type 0 where
  pub agreed : Agree F v.inodes
  pub added : Added F v.inodes w.inodes r
  pub known : Memᴰ (F.id r) (inode_ids F v)
