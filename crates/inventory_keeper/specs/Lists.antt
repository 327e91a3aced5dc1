-- What contracts see of a keeper in memory.
use Rattle.std.specs.Prelude.{ℕ, List, [], refl}
use Rattle.std.specs.Coded.{Coded, code_by, coded_list, coded_ℕ, coded×}
use Rattle.inventory_keeper.specs.declared.rows.BadRow.{BadRow}
use Rattle.inventory_keeper.specs.declared.rows.Tag.{Tag}
use Rattle.inventory_keeper.specs.Faults.{one_more}

pub record Lists : Type 0 where
  pub bad : List BadRow
  pub tags : List Tag
  -- the numbers of the calls that fail, and how many calls there were
  pub listed : List ℕ
  pub calls : ℕ
  -- how many of the calls failed
  pub faults : ℕ

-- a keeper before its first call
abbrev pub no_lists : Lists
no_lists = record { bad = []; tags = []; listed = []; calls = 0; faults = 0 }

abbrev pub bad_row_code : Coded BadRow
bad_row_code = code_by (ℕ × ℕ) (coded× coded_ℕ coded_ℕ) (λ r. (r.spa, r.length))
    (λ p. record { spa = p.0; length = p.1 }) (λ _. refl)

abbrev pub tag_code : Coded Tag
tag_code = code_by (List ℕ × List ℕ) (coded× (coded_list coded_ℕ) (coded_list coded_ℕ)) (λ t. (t.uuid, t.text))
    (λ p. record { uuid = p.0; text = p.1 }) (λ _. refl)

-- the lists as the tuple of their parts, by which proofs tell two apart
abbrev pub lists_code : Coded Lists
lists_code = code_by (List BadRow × (List Tag × (List ℕ × (ℕ × ℕ))))
    (coded× (coded_list bad_row_code) (coded× (coded_list tag_code)
    (coded× (coded_list coded_ℕ) (coded× coded_ℕ coded_ℕ))))
    (λ k. (k.bad, (k.tags, (k.listed, (k.calls, k.faults)))))
    (λ p. record { bad = p.0; tags = p.1.0; listed = p.1.1.0; calls = p.1.1.1.0; faults = p.1.1.1.1 }) (λ _. refl)

-- behind a call, and behind one that failed
abbrev pub called : Lists → Lists
called lists = record lists { calls = one_more lists.calls }

abbrev pub failed_call : Lists → Lists
failed_call lists = record lists { calls = one_more lists.calls; faults = one_more lists.faults }
