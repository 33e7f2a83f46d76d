-- What contracts see of a batch, made of its tag.
use Rattle.std.specs.Prelude.{drop}
use Rattle.am_cast.specs.declared.batch_view.BatchView.{BatchView}
use Rattle.am_cast.specs.declared.tag.Tag.{Tag}

-- the batch of this tag
abbrev pub batch_of_tag : {T P : Type 0} → Tag T P → BatchView T P
batch_of_tag t = record {
  post = t.post.value;
  segment = t.key.value.segment;
  first = t.first.value;
  others = drop 1 t.key.value.items;
}
