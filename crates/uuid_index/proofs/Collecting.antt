-- The entries of modules are collected position by position.
use Rattle.std.proofs.Common.{◌≡◌, ℕ, ◌+◌, ◌<◌, List, ◌++◌, append_assoc, drop, get_or, length, ap, sym, ◌∙◌}
use Rattle.std.proofs.lemmas.List.{drop_more}
use Rattle.label_codec.specs.ModuleLabels.{Labels}
use Rattle.uuid_index.specs.declared.entry.Entry.{Entry}
use Rattle.uuid_index.specs.Labels.{entries_from, entries_of}

-- one position on: what is done, with the entries of the module there, and what is left behind it
pub entries_from-next : (modules : List ℕ) (labels : Labels) (position : ℕ) (done : List Entry) → position < length modules
    → (done ++ entries_of position (labels (get_or modules position 0))) ++ entries_from (position + 1) (drop (position + 1) modules) labels
    ≡ done ++ entries_from position (drop position modules) labels
entries_from-next modules labels position done lt =
    append_assoc done (entries_of position (labels (get_or modules position 0))) (entries_from (position + 1) (drop (position + 1) modules) labels)
    ∙ ap (λ (rest : List ℕ). done ++ entries_from position rest labels) (sym (drop_more modules position 0 lt))
