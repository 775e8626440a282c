-- Resume points of a machine, and what is stored before them.
use Rattle.std.proofs.Common.{◌≡◌, ℕ, suc, zero, ◌≤◌, List, [], ◌∷◌, ◌++◌, length, take, refl, sym, ap, subst, ◌∙◌, arith, length-append}
use Rattle.std.specs.List.{All}
use Rattle.std.specs.Option.{option_map}
use Rattle.std.proofs.lemmas.List.{take-append-le}
use Rattle.std.proofs.lemmas.List.Elements.{All-nil, All-weaker}
use Rattle.jc_base.specs.Journal.{Journal}
use Rattle.jc_base.specs.LogEntry.{LogEntry}
use Rattle.jc_keeper.specs.Agree.{IsStored}
use Rattle.jc_upload.specs.Resume.{Point, start}
use Rattle.jc_upload.specs.Upload.{Agrees, Sender, key_before, point_behind}
use Rattle.jc_world.specs.Kept.{IsSafe}
use Rattle.jc_world.specs.Machine.{IsInOrder}
use Rattle.jc_world.proofs.Lists.{get_left}

key_more : (entries more : List LogEntry) (n : ℕ) → n ≤ length entries → key_before (entries ++ more) n ≡ key_before entries n
key_more entries more zero h = refl
key_more entries more (suc n) h = ap (option_map (λ (e : LogEntry). e.key)) (get_left entries more n (omega (arith, h)))

-- a resume point of some entries is one of these and more
pub agrees_more : (entries more : List LogEntry) (point : Point) → Agrees point entries → Agrees point (entries ++ more)
agrees_more entries more point h = record {
  within = omega (arith, h.within, length-append entries more);
  last = key_more entries more point.position h.within ∙ h.last;
}

pub agrees_behind : (entries : List LogEntry) (n : ℕ) → n ≤ length entries → Agrees (point_behind entries n) entries
agrees_behind entries n h = record { within = h; last = refl }

pub agrees_start : (entries : List LogEntry) → Agrees start entries
agrees_start entries = record { within = omega arith; last = refl }

-- ---- what is stored before them

-- a journal has what another one has
abbrev pub Has : (before after : Journal) → Type 0
Has before after = (e : LogEntry) → IsStored before e → IsStored after e

pub safe_more : (before after : Journal) (entries more : List LogEntry) (point : Point) → Has before after → IsSafe before entries point → IsSafe after (entries ++ more) point
safe_more before after entries more point has h = record {
  agrees = agrees_more entries more point h.agrees;
  stored = subst (All (IsStored after)) (sym (take-append-le point.position entries more h.agrees.within))
      (All-weaker (IsStored before) (IsStored after) has (take point.position entries) h.stored);
}

pub safe_later : (before after : Journal) (entries : List LogEntry) (point : Point) → Has before after → IsSafe before entries point → IsSafe after entries point
safe_later before after entries point has h = record {
  agrees = h.agrees;
  stored = All-weaker (IsStored before) (IsStored after) has (take point.position entries) h.stored;
}

pub safe_start : (journal : Journal) (entries : List LogEntry) → IsSafe journal entries start
safe_start journal entries = record { agrees = agrees_start entries; stored = All-nil (IsStored journal) }

-- ---- a machine by itself

pub in_order_more : (sender : Sender) (entries : List LogEntry) (entry : LogEntry) (saved : List Point) → IsInOrder sender entries saved
    → IsInOrder sender (entries ++ entry ∷ []) saved
in_order_more sender entries entry saved h = record {
  now = agrees_more entries (entry ∷ []) sender.point h.now;
  each = All-weaker (λ (point : Point). Agrees point entries) (λ (point : Point). Agrees point (entries ++ entry ∷ []))
      (λ point agrees. agrees_more entries (entry ∷ []) point agrees) saved h.each;
}
