-- What contracts see of a rig in memory.
use Rattle.std.specs.Prelude.{ℕ, List, [], map, Option, None, Vec, refl}
use Rattle.std.specs.declared.alloc.Global.{Global}
use Rattle.std.specs.BTreeMap.{BTreeMap}
use Rattle.std.specs.Coded.{Coded, coded_ℕ, coded_list, coded_option, coded×, code_by}
use Rattle.std.specs.FinMap.{empty, code, from_entries}
use Rattle.rig_trait.specs.Areas.{Areas}
use Rattle.rig_trait.specs.Counts.{no_counts, counts_code}
use Rattle.rig_trait.specs.Kept.{Keeping, keeping_code}
use Rattle.rig_trait.specs.declared.counts.Counts.{Counts}

pub record Memory : Type 0 where
  pub areas : Areas
  pub said : List ℕ
  -- how many bytes can be said in all
  pub room : ℕ
  -- the numbers of the calls that fail, and how many calls there were
  pub listed : List ℕ
  pub calls : ℕ
  pub counts : Counts
  -- the calls kept, where calls are kept
  pub keeping : Option Keeping

-- a rig without areas, before its first call
abbrev pub new_memory : ℕ → Memory
new_memory room =
    record { areas = empty; said = []; room = room; listed = []; calls = 0; counts = no_counts; keeping = None }

-- a vector's bytes, at its handle
abbrev pub bytes_of : ℕ × Vec ℕ Global → ℕ × List ℕ
bytes_of entry = (entry.0, entry.1.items)

-- the areas that a map of vectors holds
abbrev pub areas_of : BTreeMap ℕ (Vec ℕ Global) → Areas
areas_of map_of_areas = from_entries (map bytes_of map_of_areas.entries)

-- a memory as the tuple of its parts, by which proofs tell two apart
abbrev pub memory_code : Coded Memory
memory_code = code_by (Areas × (List ℕ × (ℕ × (List ℕ × (ℕ × (Counts × Option Keeping))))))
    (coded× (code coded_ℕ (coded_list coded_ℕ))
    (coded× (coded_list coded_ℕ) (coded× coded_ℕ (coded× (coded_list coded_ℕ)
    (coded× coded_ℕ (coded× counts_code (coded_option keeping_code)))))))
    (λ m. (m.areas, (m.said, (m.room, (m.listed, (m.calls, (m.counts, m.keeping)))))))
    (λ p. record {
      areas = p.0;
      said = p.1.0;
      room = p.1.1.0;
      listed = p.1.1.1.0;
      calls = p.1.1.1.1.0;
      counts = p.1.1.1.1.1.0;
      keeping = p.1.1.1.1.1.1;
    }) (λ _. refl)
