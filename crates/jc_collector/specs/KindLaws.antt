-- What is said of the kind of tables that a run has, for each that it may have begun with. (own)
use Rattle.std.proofs.Common.{subst, sym}
use Rattle.sqlite.specs.Store.{Ghosts}
use Rattle.sqlite.specs.Recovery.{Image}
use Rattle.sqlite.specs.State.{HasCleanDisk}
use Rattle.sqlite.specs.Held.{state}
use Rattle.jc_base.specs.Journal.{Journal}
use Rattle.jc_command_args.specs.declared.request.Tables.{Tables}
use Rattle.jc_collector.specs.Kinds.{BeginsIn, OpenedOver, conn_of, kind_of}
use Rattle.jc_collector.specs.Open.{HasKind}

module _ {S : Type 0} (g : Ghosts S) (made : Tables) (image : Image) (opened : OpenedOver S) (has : HasKind g opened made image) where
  pub at_kind : (Says : Tables → Journal → Type 0) → HasCleanDisk (state g (conn_of opened))
      → ((before : Journal) → BeginsIn made (kind_of opened) image before → Says (kind_of opened) before)
      → (kind : Tables) (before : Journal) → BeginsIn made kind image before → Says kind before
  at_kind Says clean each kind before begin =
      let same = has clean kind before begin in
      subst (λ (k : Tables). Says k before) (sym same) (each before (subst (λ (k : Tables). BeginsIn made k image before) same begin))
