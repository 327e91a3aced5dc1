-- How often the calls of a rig failed, and how often it was read.
use Rattle.std.specs.Prelude.{ℕ, refl}
use Rattle.std.specs.Coded.{Coded, coded_ℕ, coded×, code_by}
use Rattle.rig_trait.specs.Faults.{one_more}
use Rattle.rig_trait.specs.declared.counts.Counts.{Counts}

-- nothing has failed, and nothing was read
abbrev pub no_counts : Counts
no_counts = record { faults = 0; say_faults = 0; failed_dimm = 0; reads = 0 }

-- the counts after a call of `size` or `read` has begun
abbrev pub read_counted : Counts → Counts
read_counted counts = record counts { reads = one_more counts.reads }

-- the counts after a fault at a handle
abbrev pub fault_counted : ℕ → Counts → Counts
fault_counted dimm counts = record counts { faults = one_more counts.faults; failed_dimm = dimm }

-- the counts after a fault of `say`
abbrev pub say_fault_counted : Counts → Counts
say_fault_counted counts = record counts { say_faults = one_more counts.say_faults }

-- counts as the tuple of their parts, by which proofs tell two apart
abbrev pub counts_code : Coded Counts
counts_code = code_by (ℕ × (ℕ × (ℕ × ℕ))) (coded× coded_ℕ (coded× coded_ℕ (coded× coded_ℕ coded_ℕ)))
    (λ c. (c.faults, (c.say_faults, (c.failed_dimm, c.reads))))
    (λ p. record { faults = p.0; say_faults = p.1.0; failed_dimm = p.1.1.0; reads = p.1.1.1 }) (λ _. refl)
