use Rattle.std.proofs.Common.{◌≡◌, ℕ, List, length, ap, ◌∙◌, rules}
use Rattle.std.specs.Prelude.{replicate}
use Rattle.byte_ranges.specs.Ranges.{with_fields}
use Rattle.fletcher64.specs.Sums.{with_checksum}
use Rattle.label_codec.specs.Labels.{label_text, namespace_fields, part_fields}
use Rattle.label_codec.proofs.Written.{HasZerosReserved-text, label_of-text}
use Rattle.label_codec.proofs.label.write_label.Goals as goal

pub returns-clause-text : goal.returns-clause-text
unfolding label_text
returns-clause-text c =
    let zeros : c.fill.new.self ≡ replicate (length c.args.into.now) 0 = c.fill.ensures.after (λ y is. search rules) in
    let zeroed : c.fill.new.self ≡ replicate 256 0 = zeros ∙ ap (λ (n : ℕ). replicate n 0) c.requires in
    let fields = c.put_part_fields.ensures.fields ∙ ap (λ (bytes : List ℕ). with_fields bytes (part_fields c.args.label.now))
    (c.put_namespace_fields.ensures.fields ∙ ap (λ (bytes : List ℕ). with_fields bytes (namespace_fields c.args.label.now)) zeroed) in
    c.put_checksum.ensures.text ∙ ap (λ (bytes : List ℕ). with_checksum bytes 248) fields

pub returns-clause-read : goal.returns-clause-read
returns-clause-read c = rw (returns-clause-text c) (label_of-text c.args.label.now c.put_namespace_fields.ensures.fits c.put_part_fields.ensures.fits)

pub returns-clause-reserved : goal.returns-clause-reserved
returns-clause-reserved c = rw (returns-clause-text c) (HasZerosReserved-text c.args.label.now c.put_namespace_fields.ensures.fits c.put_part_fields.ensures.fits)
