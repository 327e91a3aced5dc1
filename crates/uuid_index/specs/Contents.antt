-- What contracts see of an index.
use Rattle.std.specs.Prelude.{ℕ, ◌-◌, List}
use Rattle.std.specs.Vec.{vec_capacity, vec_len}
use Rattle.std.specs.declared.vec.Vec.{Vec}
use Rattle.uuid_index.specs.declared.entry.Entry.{Entry}

-- the entries in their order, and how many more can be inserted without memory
pub record Contents : Type 0 where
  pub entries : List Entry
  pub room : ℕ

-- those of a vector
abbrev pub contents_of : {A : Type 0} → Vec Entry A → Contents
contents_of v = record { entries = v.items; room = vec_capacity v - vec_len v }
