-- What workers find in their pieces.
use Rattle.cops_types.specs.Faults.{HasNoSource, IsNotAbove, IsStale}
use Rattle.cops_types.specs.Histories.{Sessions}
use Rattle.cops_types.specs.Verdicts.{AllAbove, AllHaveSources}
use Rattle.cops_types.specs.VersionOrder.{IsDoubled}
use Rattle.cops_audit.specs.Names.{ListsAmong}
use Rattle.cops_audit.specs.Summarized.{Summarized}
use Rattle.cops_audit.specs.Sorted.{Sorted}
use Rattle.cops_batch.specs.Pieces.{names_of}
use Rattle.cops_batch.specs.declared.pieces.Piece.{Piece}

-- the piece lists its puts that have the version of another put
abbrev pub HasDoubled : Sorted → Piece → Type 0
HasDoubled puts p = ListsAmong (λ n. n) (IsDoubled puts.sessions) (names_of puts.names p) p.names.items

-- the piece lists its faults of the classes before the stale gets
pub record IsSearched (puts : Sorted) (p : Piece) : Type 0 where
  pub sourceless : ListsAmong (λ n. n) (HasNoSource puts.sessions) (names_of puts.names p) p.names.items
  pub not_above : ListsAmong (λ f. f.op) (λ f. IsNotAbove puts.sessions f.op f.earlier) (names_of puts.names p) p.not_above.items

-- no faults of the classes before the stale gets
abbrev pub HasNoEarlierFaults : Sessions → Type 0
HasNoEarlierFaults h = AllHaveSources h × AllAbove h

-- the piece lists its stale gets
abbrev pub HasStale : Summarized → Piece → Type 0
HasStale tables p = ListsAmong (λ f. f.op) (λ f. IsStale tables.sessions f.op f.newer) (names_of tables.names p) p.stale.items
