-- What is kept by a session as tuples of numbers, lists and options, by which proofs tell two apart.
use Rattle.std.specs.Prelude.{ℕ, Bool, List, refl}
use Rattle.std.specs.Coded.{Coded, code_by, coded_bool, coded_list, coded_ℕ, coded×}
use Rattle.region_map.specs.declared.platform.LineTable.{LineTable}
use Rattle.region_map.specs.declared.platform.Region.{Region}
use Rattle.label_sets.specs.Codes.{region_code}
use Rattle.label_sets.specs.Sets.{StoredSets, sets_code}
use Rattle.namespace_core.specs.Sessions.{StoredSession}

abbrev pub line_table_code : Coded LineTable
line_table_code = code_by (ℕ × (ℕ × List ℕ)) (coded× coded_ℕ (coded× coded_ℕ (coded_list coded_ℕ)))
    (λ t. (t.index, (t.size, t.lines))) (λ p. record { index = p.0; size = p.1.0; lines = p.1.1 }) (λ _. refl)

abbrev pub session_code : Coded StoredSession
session_code = code_by (List Region × (List ℕ × (List LineTable × (StoredSets × Bool))))
    (coded× (coded_list region_code) (coded× (coded_list coded_ℕ)
    (coded× (coded_list line_table_code) (coded× sets_code coded_bool))))
    (λ s. (s.platform.regions, (s.platform.modules, (s.platform.tables, (s.sets, s.spent)))))
    (λ p. record {
      platform = record { regions = p.0; modules = p.1.0; tables = p.1.1.0 };
      sets = p.1.1.1.0;
      spent = p.1.1.1.1;
    })
    (λ _. refl)
