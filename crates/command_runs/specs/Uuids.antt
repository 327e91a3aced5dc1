-- The uuids of new namespaces for which commands give none (RFC 4122, section 4.3).
use Rattle.std.specs.Prelude.{ℕ, List, ◌++◌, take}
use Rattle.std.specs.Fmt.{decimal}
use Rattle.std.specs.Int.{to_be_bytes, w128}
use Rattle.sha1.specs.Sha1.{sha1}
use Rattle.uuid.specs.declared.Variant.TheVariants.{RFC4122}
use Rattle.uuid.specs.declared.Version.TheVariants.{Sha1}
use Rattle.uuid.specs.Parts.{with_variant, with_version}

-- The uuid of version 5 whose namespace is the seed, the most significant byte first, and whose name is the number of
-- the command's line in decimal.
unfoldable pub own_uuid : ℕ → ℕ → List ℕ
own_uuid seed line = with_version (with_variant (take 16 (sha1 (to_be_bytes w128 seed ++ decimal line))) RFC4122) Sha1
