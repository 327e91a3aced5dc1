-- What is read from sources: the platform of an NFIT, and the bytes of an input.
use Rattle.std.specs.Prelude.{◌≡◌, ◌<◌, ◌≤◌, ℕ, false, IsOk, List, [], Ok, Err, length}
use Rattle.nfit_tables.specs.declared.pieces.Nfit as tables
use Rattle.nfit_tables.specs.Limits.{most_bytes}
use Rattle.nfit_tables.specs.Reading.{table_of}
use Rattle.region_map.specs.declared.platform.Platform.{Platform}
use Rattle.region_map.specs.Platforms.{IsPlatformOf, IsSound}
use Rattle.rig_trait.specs.declared.source.Source.{Ghosts}
use Rattle.rig_trait.specs.Sources.{Draws, TellsLeft}
use Rattle.run_edges.specs.declared.faults.Fault.{Fault}
use Rattle.run_edges.specs.declared.faults.Fault.TheVariants.{Words, Nfit, Area, Source, Limit, Memory}
use Rattle.run_edges.specs.declared.faults.SourceName.{SourceName}
use Rattle.run_edges.specs.declared.faults.SourceName.TheVariants as sources
use Rattle.run_edges.specs.Faults.{is_source}

-- the most bytes that are read of an NFIT, and of a list of lines
abbrev pub most_read : ℕ
most_read = most_bytes

-- A source was read to its end, and these are its bytes, of which there may be so many.
pub record HasBytes {N : Type 0} (n : Ghosts N) (most : ℕ) (old new : N) (bytes : List ℕ) : Type 0 where
  pub few : length bytes ≤ most
  pub bytes_are : TellsLeft n old → bytes ≡ n.left old
  pub ended : TellsLeft n old → n.left new ≡ []
  pub draws : Draws n old new false

-- Why they cannot be had. Nothing tells what failed; that there are too many holds where the source tells them.
abbrev pub IsReadFault : {N : Type 0} → Ghosts N → SourceName → ℕ → N → Fault → Type 0
IsReadFault n name most source (Limit named) = (named ≡ name) × (TellsLeft n source → most < length (n.left source))
IsReadFault n name most source (Source named) = named ≡ name
IsReadFault n name most source Memory = Unit {0}
IsReadFault n name most source (Nfit fault) = ⊥
IsReadFault n name most source (Area dimm) = ⊥
IsReadFault n name most source Words = ⊥

pub record HasNoBytes {N : Type 0} (n : Ghosts N) (name : SourceName) (most : ℕ) (old new : N) (fault : Fault)
    : Type 0 where
  pub cause : IsReadFault n name most old fault
  pub draws : Draws n old new (is_source fault)

-- an NFIT that is read: it is not too long, and its bytes are one
abbrev pub IsAccepted : List ℕ → Type 0
IsAccepted left = (length left ≤ most_read) × IsOk (table_of left)

-- the bytes are an NFIT that is not too long, and the platform is its
pub record IsPlatformIn (left : List ℕ) (platform : Platform) : Type 0 where
  pub nfit : tables.Nfit
  pub few : length left ≤ most_read
  pub read : table_of left ≡ Ok nfit
  pub is_of : IsPlatformOf nfit platform

-- The NFIT was read to its end, and the platform is its.
pub record HasPlatform {N : Type 0} (n : Ghosts N) (old new : N) (platform : Platform) : Type 0 where
  pub sound : IsSound platform
  pub is_in : TellsLeft n old → IsPlatformIn (n.left old) platform
  pub ended : TellsLeft n old → n.left new ≡ []
  pub draws : Draws n old new false

-- Why there is no platform. That the bytes are no NFIT holds where the source tells them.
abbrev pub IsNfitFault : {N : Type 0} → Ghosts N → N → Fault → Type 0
IsNfitFault n source (Nfit fault) =
    TellsLeft n source → (length (n.left source) ≤ most_read) × (table_of (n.left source) ≡ Err fault)
IsNfitFault n source fault = IsReadFault n sources.Nfit most_read source fault

-- Bytes that are no NFIT were read to their end, so none are left.
abbrev pub IsEndedAt : Fault → List ℕ → Type 0
IsEndedAt (Nfit fault) left = left ≡ []
IsEndedAt _ left = Unit {0}

pub record HasNoPlatform {N : Type 0} (n : Ghosts N) (old new : N) (fault : Fault) : Type 0 where
  pub cause : IsNfitFault n old fault
  pub ended : TellsLeft n old → IsEndedAt fault (n.left new)
  pub draws : Draws n old new (is_source fault)
