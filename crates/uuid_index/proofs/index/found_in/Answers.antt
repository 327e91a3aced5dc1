use Rattle.std.proofs.Common.{[], sym, ◌∙◌}
use Rattle.uuid_index.specs.declared.entry.Entry.{Entry}
use Rattle.uuid_index.proofs.Searches.{first_stands, found_nowhere, found_once, found_twice}
use Rattle.uuid_index.proofs.index.found_in.Goals as goal

abbrev none : Entry
none = record { uuid = []; position = 0; slot = 0 }

pub returns-then-not-has_at : goal.returns-then-not-has_at
returns-then-not-has_at c =
    found_nowhere c.args.uuid.now c.args.position c.args.entries.now c.requires _ c.start_of-at.ensures (sym c.has_at.ensures ∙ c.if-not-has_at.true)

pub returns-then-has_at : goal.returns-then-has_at
returns-then-has_at c =
    found_twice c.args.uuid.now c.args.position c.args.entries.now c.requires _ c.start_of-at.ensures (sym c.has_at.ensures ∙ c.if-not-has_at.false) (sym c.has_at-2.ensures ∙ c.if-has_at.true)

pub returns : goal.returns
returns c =
    let here = sym c.has_at.ensures ∙ c.if-not-has_at.false in
    let next = sym c.has_at-2.ensures ∙ c.if-has_at.false in
    (found_once c.args.uuid.now c.args.position c.args.entries.now c.requires _ c.start_of-at.ensures here next, first_stands c.args.uuid.now c.args.position c.args.entries.now c.requires _ c.start_of-at.ensures none here)
