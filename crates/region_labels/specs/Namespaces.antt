-- What namespaces are ordered by.
use Rattle.std.specs.Cmp.Lexicographic.{slice_cmp}
use Rattle.std.specs.Ordering.{nat_cmp, ordering_then}
use Rattle.std.specs.declared.cmp.Ordering.{Ordering}
use Rattle.view_types.specs.declared.namespaces.Namespace.{Namespace}
use Rattle.region_labels.specs.declared.namespaces.SpaceKey.{SpaceKey}

abbrev pub space_key : Namespace → SpaceKey
space_key space = record { offset = space.offset; uuid = space.uuid }

-- by offset, and then by the bytes of the uuid
abbrev pub key_cmp : SpaceKey → SpaceKey → Ordering
key_cmp a b = ordering_then (nat_cmp a.offset b.offset) (slice_cmp nat_cmp a.uuid b.uuid)
