use Rattle.std.proofs.Common.{◌<◌, arith}
use Rattle.switch_response.specs.Spread.{room}
use Rattle.switch_response.proofs.Relaxation.{room_left}
use Rattle.switch_response.proofs.relax.carry.Goals as goal

pub push-requires : goal.push-requires
push-requires c =
    let left : 0 < room c.args.best.now = room_left c.args.best.now c.args.arc.now.to c.min-reached.result c.requires.to c.if-best-arc.true (omega (arith, c.min-reached.ensures, c.requires.strength)) in
    omega (arith, c.requires.room)
