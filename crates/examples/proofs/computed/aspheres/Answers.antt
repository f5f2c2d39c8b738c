use Rattle.examples.proofs.ComputedAspheres.{spherical_height, bent_height, past_zone, at_zone, bowl_lost, bowl_root, bowl_as_conic, last_cell, conic_asphere, zone_between, edge_asphere}
use Rattle.examples.proofs.computed.aspheres.Goals as goal

pub returns-clause-spherical : goal.returns-clause-spherical
returns-clause-spherical c = spherical_height

pub returns-clause-bent : goal.returns-clause-bent
returns-clause-bent c = bent_height

pub returns-clause-zone : goal.returns-clause-zone
returns-clause-zone c = past_zone

pub returns-clause-at_zone : goal.returns-clause-at_zone
returns-clause-at_zone c = at_zone

pub returns-clause-bowl : goal.returns-clause-bowl
returns-clause-bowl c = bowl_lost

pub returns-clause-root : goal.returns-clause-root
returns-clause-root c = bowl_root

pub returns-clause-conic : goal.returns-clause-conic
returns-clause-conic c = bowl_as_conic

pub returns-clause-last_cell : goal.returns-clause-last_cell
returns-clause-last_cell c = last_cell

pub returns-clause-far_conic : goal.returns-clause-far_conic
returns-clause-far_conic c = conic_asphere

pub returns-clause-zone_square : goal.returns-clause-zone_square
returns-clause-zone_square c = zone_between

pub returns-clause-edge : goal.returns-clause-edge
returns-clause-edge c = edge_asphere
