-- What contracts see of a delivery. (own)
use Rattle.jc_collect.specs.declared.delivery.Delivery.{Delivery}
use Rattle.jc_collect.specs.declared.delivery.Delivery.TheVariants.{Stream, Space}

-- by whether it is a stream or a space
abbrev pub of_delivery : {R B X : Type 0} → (R → X) → (B → X) → Delivery R B → X
of_delivery stream space (Stream device) = stream device
of_delivery stream space (Space device) = space device
