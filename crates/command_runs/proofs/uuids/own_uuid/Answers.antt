use Rattle.std.proofs.Common.{◌≡◌, ◌++◌, take, ◌∙◌}
use Rattle.std.specs.Fmt.{decimal}
use Rattle.sha1.specs.Sha1.{sha1}
use Rattle.uuid.specs.declared.Variant.TheVariants.{RFC4122}
use Rattle.uuid.specs.declared.Version.TheVariants.{Sha1}
use Rattle.uuid.specs.Parts.{with_variant, with_version}
use Rattle.command_runs.specs.Uuids.{own_uuid}
use Rattle.command_runs.proofs.uuids.own_uuid.Goals as goal

pub returns : goal.returns
unfolding own_uuid
returns c =
    let name : c.as_bytes.result.now ≡ decimal c.args.line = cc in
    c.new_v5.ensures.value ∙ (λ i. with_version (with_variant (take 16 (sha1 (c.from_u128.ensures i ++ name i))) RFC4122) Sha1)
