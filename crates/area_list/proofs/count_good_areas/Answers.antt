use Rattle.format_laws.specs.Tests.{via}
use Rattle.area_list.specs.Description.{not_good, bad_size, list_long, list_bad, list_good}
use Rattle.area_list.proofs.count_good_areas.Goals as goal

pub returns-then-image-gt-LARGEST_IMAGE : goal.returns-then-image-gt-LARGEST_IMAGE
returns-then-image-gt-LARGEST_IMAGE c = not_good _ _ (bad_size _ _ c.if-image-gt-LARGEST_IMAGE.true)

pub returns-then-n-gt-MOST_AREAS : goal.returns-then-n-gt-MOST_AREAS
returns-then-n-gt-MOST_AREAS c = list_long _ _ _ c.count_areas-n.ensures c.if-n-gt-MOST_AREAS.true

pub returns-then-not-good_areas : goal.returns-then-not-good_areas
returns-then-not-good_areas c = list_bad _ _ _ c.count_areas-n.ensures c.if-n-gt-MOST_AREAS.false (via c.good_areas.ensures c.if-not-good_areas.true)

pub returns : goal.returns
returns c = list_good _ _ _ c.count_areas-n.ensures c.if-n-gt-MOST_AREAS.false (via c.good_areas.ensures c.if-not-good_areas.false) c.if-image-gt-LARGEST_IMAGE.false
