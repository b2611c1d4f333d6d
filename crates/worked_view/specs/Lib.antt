pub mod RedTicks
